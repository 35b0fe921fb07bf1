-- The events of a command: those that are quiet, and the one behind them that is not, if there is
-- one.
use Rattle.std.proofs.Common.{◌≡◌, ◌⊎◌, ℕ, Bool, true, List, [], ◌∷◌, ◌++◌, map, Option, None, Some, refl, sym, ap, ◌∙◌, append-nil}
use mathlib.Core.Logic.{inl, inr}
use Rattle.std.specs.Prelude.{option_and_then, option_map, option_to_list}
use Rattle.std.specs.List.{list_all}
use Rattle.event_spec.specs.declared.event.Event.TheVariants as event
use Rattle.event_spec.specs.declared.event.MovePair.{MovePair}
use Rattle.event_spec.specs.declared.own.OwnTransaction.{OwnTransaction}
use Rattle.event_spec.specs.Effects.{CoreEvent}
use Rattle.event_spec.specs.Parts.{Shape}
use Rattle.event_spec.specs.Plans.{plan_of}
use Rattle.isolation_spec.specs.Contents.{key_of}
use Rattle.isolation_spec.specs.Reads.{ReadSet}
use Rattle.workload_spec.specs.declared.command.Command.{Command}
use Rattle.workload_spec.specs.declared.command.Command.TheVariants as command
use Rattle.run_spec.specs.Asked.{at_all_blocks, at_blocks, by_own, events_of, image_of, imaged_block, looks_in, moves, parts_before, prunes, thaws}
use Rattle.run_spec.specs.Occurrences.{Occurrence}
use Rattle.run_spec.specs.Opened.{own_key}
use Rattle.run_laws.proofs.Calls.Along.{and_first, and_second}
use Rattle.run_laws.proofs.Calls.Asking.{all_blocks, all_map, all_prunes, all_thaws, reads}
use Rattle.run_laws.specs.Told.Laws.{is_quiet}

-- ---- lists

-- lists that are one begin with the same
pub heads : {X : Type 0} (a b : X) (xs ys : List X) → a ∷ xs ≡ b ∷ ys → a ≡ b
heads a b xs ys e = cc

-- lists that are one are one behind their first elements
pub tails : {X : Type 0} (a b : X) (xs ys : List X) → a ∷ xs ≡ b ∷ ys → xs ≡ ys
tails a b xs ys e = cc

-- an empty list has no first element
pub none_some : {X : Type 0} (a : X) (xs : List X) → [] ≡ a ∷ xs → ⊥
none_some a xs e = cc

-- an empty list has no element behind others
pub none_behind : {X : Type 0} (es : List X) (e : X) (rest : List X) → [] ≡ es ++ e ∷ rest → ⊥
none_behind [] e rest h = none_some e rest h
none_behind (x ∷ es) e rest h = none_some x (es ++ e ∷ rest) h

-- an element of two lists is of the first or of the second
pub parted : {X : Type 0} (xs zs es : List X) (e : X) (rest : List X) → xs ++ zs ≡ es ++ e ∷ rest
    → ((more : List X) × (xs ≡ es ++ e ∷ more)) ⊎ ((fs : List X) × (zs ≡ fs ++ e ∷ rest))
parted [] zs es e rest h = inr (es, h)
parted {X} (x ∷ xs) zs [] e rest h = inl (xs, ap (λ y. y ∷ xs) (heads x e (xs ++ zs) rest h))
parted {X} (x ∷ xs) zs (y ∷ es) e rest h =
    go (parted xs zs es e rest (tails x y (xs ++ zs) (es ++ e ∷ rest) h)) (heads x y (xs ++ zs) (es ++ e ∷ rest) h)
  where
    go : ((more : List X) × (xs ≡ es ++ e ∷ more)) ⊎ ((fs : List X) × (zs ≡ fs ++ e ∷ rest)) → x ≡ y
        → ((more : List X) × (x ∷ xs ≡ (y ∷ es) ++ e ∷ more)) ⊎ ((fs : List X) × (zs ≡ fs ++ e ∷ rest))
    go (inl h) same = inl (h.0, ap (λ z. z ∷ xs) same ∙ ap (λ zs. y ∷ zs) h.1)
    go (inr h) same = inr h

-- one element alone
pub alone : {X : Type 0} (z : X) (fs : List X) (e : X) (rest : List X) → z ∷ [] ≡ fs ++ e ∷ rest → (z ≡ e) × (rest ≡ [])
alone z [] e rest h = (heads z e [] rest h, sym (tails z e [] rest h))
alone z (f ∷ fs) e rest h = absurd (none_behind fs e rest (tails z f [] (fs ++ e ∷ rest) h))

-- what all of a list pass, one within it passes
pub passes_at : {X : Type 0} (p : X → Bool) (es : List X) (e : X) (rest : List X) → list_all p (es ++ e ∷ rest) ≡ true → p e ≡ true
passes_at p [] e rest h = and_first (p e) (list_all p rest) h
passes_at p (x ∷ es) e rest h = passes_at p es e rest (and_second (p x) (list_all p (es ++ e ∷ rest)) h)

-- ---- the events of a command

-- the quiet events of a command, which stand first
abbrev pub quiet_of : Shape → Option OwnTransaction → Command → List Occurrence → List CoreEvent
quiet_of shape own (command.Begin checked) made = []
quiet_of shape own (command.Get table key) made = by_own own (λ t. event.Get (own_key table key t) table key ∷ [])
quiet_of shape own (command.Scan table) made = by_own own (λ t. at_blocks shape table (event.Read t table))
quiet_of shape own (command.Range table low high) made = by_own own (λ t. event.Range t table low high ∷ [])
quiet_of shape own (command.Total table column low high) made = by_own own (λ t. at_blocks shape table (event.Read t table))
quiet_of shape own (command.Insert table row) made = []
quiet_of shape own (command.Update table row) made = by_own own (λ t. thaws shape table (key_of row) made)
quiet_of shape own (command.Delete table key) made = by_own own (λ t. thaws shape table key made)
quiet_of shape own command.Commit made = []
quiet_of shape own command.Abort made = []
quiet_of shape own command.Observe made = at_all_blocks shape event.Observe
quiet_of shape own command.Prune made = event.Oldest ∷ prunes shape made
quiet_of shape own (command.Compact table) made = at_blocks shape table (event.Look table)
quiet_of shape own (command.Seal table block) made = []
quiet_of shape own (command.Gather table block) made = []
quiet_of shape own (command.Export table) made = by_own own (λ t. at_blocks shape table (event.Read t table))

-- the move of a plan, if it has one
abbrev pub move_of : ℕ → List MovePair → Option CoreEvent
move_of table [] = None
move_of table (pair ∷ pairs) = Some (event.Move table (pair ∷ pairs))

-- the event behind them
abbrev pub loud_of : Shape → Option OwnTransaction → Option ReadSet → ℕ → Command → List Occurrence → Option CoreEvent
loud_of shape own handed session (command.Begin checked) made = Some (event.Begin session)
loud_of shape own handed session (command.Get table key) made = None
loud_of shape own handed session (command.Scan table) made = None
loud_of shape own handed session (command.Range table low high) made = None
loud_of shape own handed session (command.Total table column low high) made = None
loud_of shape own handed session (command.Insert table row) made =
    option_map (λ (t : OwnTransaction). event.Insert (own_key table (key_of row) t) table row) own
loud_of shape own handed session (command.Update table row) made =
    option_map (λ (t : OwnTransaction). event.Update (own_key table (key_of row) t) table row) own
loud_of shape own handed session (command.Delete table key) made =
    option_map (λ (t : OwnTransaction). event.Delete (own_key table key t) table key) own
loud_of shape own handed session command.Commit made = option_map (λ (t : OwnTransaction). event.Commit t handed) own
loud_of shape own handed session command.Abort made = option_map event.Abort own
loud_of shape own handed session command.Observe made = None
loud_of shape own handed session command.Prune made = None
loud_of shape own handed session (command.Compact table) made = move_of table (plan_of (looks_in made))
loud_of shape own handed session (command.Seal table block) made = Some (event.Seal table block)
loud_of shape own handed session (command.Gather table block) made = Some (event.Image table block (image_of shape table block made))
loud_of shape own handed session (command.Export table) made = None

-- Events of the open transaction, with none behind them, are these events.
by_none : (own : Option OwnTransaction) (f : OwnTransaction → List CoreEvent) → by_own own f ≡ by_own own f ++ []
by_none own f = sym (append-nil (by_own own f))

-- An event of the open transaction is there where one is open.
by_one : (own : Option OwnTransaction) (f : OwnTransaction → CoreEvent) → by_own own (λ t. f t ∷ []) ≡ option_to_list (option_map f own)
by_one None f = refl
by_one (Some t) f = refl

-- Events of the open transaction and one behind them are told in two parts.
by_two : (own : Option OwnTransaction) (g : List CoreEvent) (f : OwnTransaction → CoreEvent)
    → by_own own (λ t. g ++ f t ∷ []) ≡ by_own own (λ t. g) ++ option_to_list (option_map f own)
by_two None g f = refl
by_two (Some t) g f = refl

-- The moves of a plan are its one move, if it has one.
moves_are : (table : ℕ) (pairs : List MovePair) → moves table pairs ≡ option_to_list (move_of table pairs)
moves_are table [] = refl
moves_are table (pair ∷ pairs) = refl

-- the events of a command are those that are quiet, and the one behind them, if there is one
pub split_events : (shape : Shape) (own : Option OwnTransaction) (handed : Option ReadSet) (session : ℕ) (asked : Command) (made : List Occurrence)
    → events_of shape own handed session asked made ≡ quiet_of shape own asked made ++ option_to_list (loud_of shape own handed session asked made)
split_events shape own handed session (command.Begin checked) made = refl
split_events shape own handed session (command.Get table key) made = by_none own (λ t. event.Get (own_key table key t) table key ∷ [])
split_events shape own handed session (command.Scan table) made = by_none own (λ t. at_blocks shape table (event.Read t table))
split_events shape own handed session (command.Range table low high) made = by_none own (λ t. event.Range t table low high ∷ [])
split_events shape own handed session (command.Total table column low high) made = by_none own (λ t. at_blocks shape table (event.Read t table))
split_events shape own handed session (command.Insert table row) made = by_one own (λ t. event.Insert (own_key table (key_of row) t) table row)
split_events shape own handed session (command.Update table row) made =
    by_two own (thaws shape table (key_of row) made) (λ t. event.Update (own_key table (key_of row) t) table row)
split_events shape own handed session (command.Delete table key) made =
    by_two own (thaws shape table key made) (λ t. event.Delete (own_key table key t) table key)
split_events shape own handed session command.Commit made = by_one own (λ t. event.Commit t handed)
split_events shape own handed session command.Abort made = by_one own event.Abort
split_events shape own handed session command.Observe made = sym (append-nil (at_all_blocks shape event.Observe))
split_events shape own handed session command.Prune made = sym (append-nil (event.Oldest ∷ prunes shape made))
split_events shape own handed session (command.Compact table) made =
    ap (λ es. at_blocks shape table (event.Look table) ++ es) (moves_are table (plan_of (looks_in made)))
split_events shape own handed session (command.Seal table block) made = refl
split_events shape own handed session (command.Gather table block) made = refl
split_events shape own handed session (command.Export table) made = by_none own (λ t. at_blocks shape table (event.Read t table))

-- A get of the open transaction is quiet.
quiet_get : (own : Option OwnTransaction) (table : ℕ) (key : Rattle.std.specs.Prelude.ℤ)
    → list_all is_quiet (by_own own (λ t. event.Get (own_key table key t) table key ∷ [])) ≡ true
quiet_get None table key = refl
quiet_get (Some t) table key = refl

-- The thaw of a block, if there is one, is quiet.
quiet_thaws : (own : Option OwnTransaction) (table : ℕ) (block : Option ℕ)
    → list_all is_quiet (by_own own (λ t. map (event.Thaw table) (option_to_list block))) ≡ true
quiet_thaws None table block = refl
quiet_thaws (Some t) table block = all_thaws is_quiet table block (λ block. refl)

-- the events that stand first are quiet
pub are_quiet : (shape : Shape) (own : Option OwnTransaction) (asked : Command) (made : List Occurrence)
    → list_all is_quiet (quiet_of shape own asked made) ≡ true
are_quiet shape own (command.Begin checked) made = refl
are_quiet shape own (command.Get table key) made = quiet_get own table key
are_quiet shape own (command.Scan table) made = reads is_quiet shape own table (λ t is block. refl)
are_quiet shape None (command.Range table low high) made = refl
are_quiet shape (Some t) (command.Range table low high) made = refl
are_quiet shape own (command.Total table column low high) made = reads is_quiet shape own table (λ t is block. refl)
are_quiet shape own (command.Insert table row) made = refl
are_quiet shape own (command.Update table row) made =
    quiet_thaws own table (option_and_then (imaged_block shape table (key_of row)) (parts_before made))
are_quiet shape own (command.Delete table key) made =
    quiet_thaws own table (option_and_then (imaged_block shape table key) (parts_before made))
are_quiet shape own command.Commit made = refl
are_quiet shape own command.Abort made = refl
are_quiet shape own command.Observe made = all_blocks is_quiet shape event.Observe (λ table block. refl)
are_quiet shape own command.Prune made = all_prunes is_quiet shape made (λ table block oldest. refl)
are_quiet shape own (command.Compact table) made =
    all_map is_quiet (event.Look table) (λ block. refl) (Rattle.event_spec.specs.Parts.below (Rattle.event_spec.specs.Parts.blocks_of shape table))
are_quiet shape own (command.Seal table block) made = refl
are_quiet shape own (command.Gather table block) made = refl
are_quiet shape own (command.Export table) made = reads is_quiet shape own table (λ t is block. refl)

-- an event of a command is quiet, or the last
pub placed : (shape : Shape) (own : Option OwnTransaction) (handed : Option ReadSet) (session : ℕ) (asked : Command) (made : List Occurrence)
    (es : List CoreEvent) (e : CoreEvent) (rest : List CoreEvent)
    → events_of shape own handed session asked made ≡ es ++ e ∷ rest
    → (is_quiet e ≡ true) ⊎ ((rest ≡ []) × (loud_of shape own handed session asked made ≡ Some e))
placed shape own handed session asked made es e rest h =
    go (parted (quiet_of shape own asked made) (option_to_list (loud_of shape own handed session asked made)) es e rest
    (sym (split_events shape own handed session asked made) ∙ h))
  where
    loud : (o : Option CoreEvent) (fs : List CoreEvent) → option_to_list o ≡ fs ++ e ∷ rest → (rest ≡ []) × (o ≡ Some e)
    loud None fs f = absurd (none_behind fs e rest f)
    loud (Some x) fs f = let a = alone x fs e rest f in (a.1, ap Some a.0)

    go : ((more : List CoreEvent) × (quiet_of shape own asked made ≡ es ++ e ∷ more))
        ⊎ ((fs : List CoreEvent) × (option_to_list (loud_of shape own handed session asked made) ≡ fs ++ e ∷ rest))
        → (is_quiet e ≡ true) ⊎ ((rest ≡ []) × (loud_of shape own handed session asked made ≡ Some e))
    go (inl q) = inl (passes_at is_quiet es e q.0 (ap (list_all is_quiet) (sym q.1) ∙ are_quiet shape own asked made))
    go (inr l) = inr (loud (loud_of shape own handed session asked made) l.0 l.1)
