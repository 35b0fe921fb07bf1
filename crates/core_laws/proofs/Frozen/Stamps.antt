-- The last stamp of a block.
use Rattle.std.proofs.Common.{◌≡◌, ℕ, ◌+◌, ◌<◌, ◌≤◌, Bool, true, false, cond, ◌&&◌, ◌==◌, List, [], ◌∷◌, map, fold, Option, None, Some, is_none, unwrap_or, refl, sym, ap, ◌∙◌, subst, arith}
use Rattle.std.specs.Prelude.{Result, Ok, Err}
use Rattle.std.proofs.lemmas.Bool.Decides.{nat_tests}
use Rattle.block_layout.specs.Place.{block_of, slot_of}
use Rattle.block_spec.specs.Bodies.{Body, committed_in, imaged, is_written_by, modified, observed, pruned_in, rolled_back_in, seal_fault, sealed, thawed, with_slot}
use Rattle.block_spec.specs.declared.change.Change.{Change}
use Rattle.block_spec.specs.declared.change.Change.TheVariants as change
use Rattle.block_spec.specs.declared.phase.SealFault.{SealFault}
use Rattle.block_spec.specs.Slots.{Row, moved_in, moved_out, rolled_back, written}
use Rattle.core_laws.proofs.Events.Moved.{halves}
use Rattle.event_spec.specs.declared.event.Event.TheVariants as event
use Rattle.event_spec.specs.declared.event.MovePair.{MovePair}
use Rattle.event_spec.specs.declared.own.OwnKey.{OwnKey}
use Rattle.event_spec.specs.declared.reply.Reply.TheVariants as reply
use Rattle.event_spec.specs.declared.reply.WriteFault.{WriteFault}
use Rattle.event_spec.specs.Effects.{CoreEvent, after_change, after_insert, after_judged, after_move, at_both, change_judged, changes_of, effect, held_pairs, insert_judged, is_some_write, moved_row, stale_in}
use Rattle.event_spec.specs.Judged.{differences}
use Rattle.event_spec.specs.Parts.{Parts, Shape, nothing, body_at, desk_at, is_head, slot_at}
use Rattle.event_spec.specs.Replies.{CoreReply, reply_to_seal}
use Rattle.isolation_spec.specs.declared.read.Read.{Read}
use Rattle.core_laws.specs.Frozen.Laws.{SealsAreNew, StampsRise}
use Rattle.isolation_spec.specs.Contents.{key_of}
use Rattle.core_laws.proofs.Sound.Keeps.{shaped}
use Rattle.core_laws.proofs.Sound.Kept.{body_after}

-- A number passes the test for equality with itself.
pub num_refl : (a : ℕ) → (a == a) ≡ true
num_refl a = grind (arith, nat_tests)

-- a change of one body
at_one : (t b : ℕ) (g : Body → Body) → ((y : Body) → y.last ≤ (g y).last) → (u x : ℕ) (y : Body) → y.last ≤ (at_both t b g u x y).last
at_one t b g up u x y = go ((u == t) && (x == b))
  where
    go : (e : Bool) → y.last ≤ (cond e (g y) y).last
    go true = up y
    go false = omega arith

module _ (sh : Shape) (s : Parts) (t b : ℕ) where
  -- An insert lowers no block's last stamp.
  insert_last : (own : OwnKey) (u : ℕ) (row : Row) (r : Result ℕ WriteFault) (y : Body) → y.last ≤ ((after_insert sh s own u row r).body t b y).last
  insert_last own u row (Err fault) y = omega arith
  insert_last own u row (Ok p) y = at_one u (block_of p) (with_slot (slot_of p) (written own.session (change.Put row))) (λ y. omega arith) t b y

  -- A change of a key, however it is judged, does not lower a block's last stamp.
  change_last : (own : OwnKey) (u : ℕ) (choice : Row → Change) (r : Result ℕ WriteFault) (y : Body) → y.last ≤ ((after_change sh s own u choice r).body t b y).last
  change_last own u choice (Err fault) y = omega arith
  change_last own u choice (Ok p) y = at_one u (block_of p) (with_slot (slot_of p) (written own.session (choice (unwrap_or (slot_at sh s u p).row [])))) (λ y. omega arith) t b y

  -- A commit, with writes or without, does not lower a body's last stamp.
  commit_last : (wrote : Bool) (q at number : ℕ) (y : Body) → y.last ≤ ((cond wrote (committed_in q at number) (λ (body : Body). body)) y).last
  commit_last true q at number y = omega arith
  commit_last false q at number y = omega arith

  -- A roll-back does not lower a body's last stamp.
  abort_last : (q : ℕ) (y : Body) → y.last ≤ (rolled_back_in q y).last
  abort_last q y = go (is_written_by q y)
    where
      go : (e : Bool) → y.last ≤ (cond e (record (modified y) { slots = map (rolled_back q) y.slots }) y).last
      go true = omega arith
      go false = omega arith

  -- One pair of a move does not lower a body's last stamp.
  half_last : (at : ℕ) (row : MovePair → Row) (pair : MovePair) (y : Body) → y.last ≤ (halves at row b y pair).last
  half_last at row pair y = go (block_of pair.target == b) (block_of pair.source == b)
    where
      go : (m n : Bool) → y.last ≤ (cond m (with_slot (slot_of pair.target) (moved_in at (row pair)) (cond n (with_slot (slot_of pair.source) (moved_out at (row pair)) y) y)) (cond n (with_slot (slot_of pair.source) (moved_out at (row pair)) y) y)).last
      go true true = omega arith
      go true false = omega arith
      go false true = omega arith
      go false false = omega arith

  -- Pairs of a move, one after another, do not lower a body's last stamp.
  halves_last : (at : ℕ) (row : MovePair → Row) (pairs : List MovePair) (y : Body) → y.last ≤ (fold (halves at row b) y pairs).last
  halves_last at row [] y = omega arith
  halves_last at row (first ∷ rest) y = let one = half_last at row first y in let more = halves_last at row rest (halves at row b y first) in omega (arith, one, more)

  -- A move of some pairs does not lower a block's last stamp.
  move_last : (u : ℕ) (pairs : List MovePair) (y : Body) → y.last ≤ ((after_move sh s u pairs).body t b y).last
  move_last u [] y = omega arith
  move_last u (first ∷ rest) y = go (t == u)
    where
      go : (e : Bool) → y.last ≤ (cond e (fold (halves ((desk_at sh s).newest + 1) (moved_row sh s u) b) y (first ∷ rest)) y).last
      go true = halves_last ((desk_at sh s).newest + 1) (moved_row sh s u) (first ∷ rest) y
      go false = omega arith

  -- A seal does not lower a block's last stamp.
  seal_last : (u x : ℕ) (y : Body) → y.last ≤ ((changes_of sh s (event.Seal u x)).body t b y).last
  seal_last u x y = go (is_none (seal_fault (is_head sh s u x) (body_at sh s u x)))
    where
      go : (e : Bool) → y.last ≤ ((cond e (record nothing { body = at_both u x sealed }) nothing).body t b y).last
      go true = at_one u x sealed (λ y. omega arith) t b y
      go false = omega arith

  -- No event lowers a block's last stamp.
  event_last : (e : CoreEvent) (y : Body) → y.last ≤ ((changes_of sh s e).body t b y).last
  event_last (event.Begin q) y = omega arith
  event_last (event.Get own u key) y = omega arith
  event_last (event.Insert own u row) y = insert_last own u row (insert_judged sh s own u (key_of row)) y
  event_last (event.Update own u row) y = change_last own u (λ old. change.Patch (differences 0 old row)) (change_judged sh s own u (key_of row)) y
  event_last (event.Delete own u key) y = change_last own u (λ old. change.Gone) (change_judged sh s own u key) y
  event_last (event.Read own u x) y = omega arith
  event_last (event.Range own u low high) y = omega arith
  event_last (event.Commit own reads) y = judged (stale_in sh s own reads)
    where
      judged : (found : Option (Read × ℕ)) → y.last ≤ ((after_judged sh s own found).body t b y).last
      judged None = commit_last (is_some_write own.writes) own.session ((desk_at sh s).newest + 1) ((desk_at sh s).commits + 1) y
      judged (Some stale) = omega arith
  event_last (event.Abort own) y = abort_last own.session y
  event_last event.Oldest y = omega arith
  event_last (event.Observe u x) y = at_one u x (observed (is_head sh s u x)) (λ y. omega arith) t b y
  event_last (event.Prune u x oldest) y = at_one u x (pruned_in oldest) (λ y. omega arith) t b y
  event_last (event.Look u x) y = omega arith
  event_last (event.Move u moves) y = move_last u (held_pairs sh s u moves) y
  event_last (event.Seal u x) y = seal_last u x y
  event_last (event.Image u x image) y = at_one u x imaged (λ y. omega arith) t b y
  event_last (event.Thaw u x) y = at_one u x thawed (λ y. omega arith) t b y

-- A block's last stamp never falls.
pub stamps_rise : StampsRise
stamps_rise sh s e t b shape ok lawful has =
    subst (λ (y : Body). (body_at sh s t b).last ≤ y.last) (sym (body_after sh s (shaped sh s ok) (changes_of sh s e) t b has)) (event_last sh s t b e (body_at sh s t b))

-- A seal's stamp is above the block's last, and is the last then.
pub seals_are_new : SealsAreNew
seals_are_new sh s t b stamp shape ok has is = go (seal_fault (is_head sh s t b) (body_at sh s t b)) refl
  where
    sealed_same : (r : CoreReply) (x y : ℕ) → r ≡ reply.Sealed x → r ≡ reply.Sealed y → x ≡ y
    sealed_same r x y a b = cc

    not_sealed : (r : CoreReply) (fault : SealFault) → r ≡ reply.NotSealed fault → r ≡ reply.Sealed stamp → ⊥
    not_sealed r fault a b = cc

    go : (o : Option SealFault) → seal_fault (is_head sh s t b) (body_at sh s t b) ≡ o
        → ((body_at sh s t b).last < stamp) × ((body_at sh (effect sh s (event.Seal t b)) t b).last ≡ stamp)
    go (Some fault) e = absurd (not_sealed (reply_to_seal (seal_fault (is_head sh s t b) (body_at sh s t b)) (body_at sh s t b).last) fault (ap (λ o. reply_to_seal o (body_at sh s t b).last) e) is)
    go None e =
        let next : (body_at sh s t b).last + 1 ≡ stamp = sealed_same (reply_to_seal (seal_fault (is_head sh s t b) (body_at sh s t b)) (body_at sh s t b).last) ((body_at sh s t b).last + 1) stamp (ap (λ o. reply_to_seal o (body_at sh s t b).last) e) is in (
          omega (arith, next),
          ap (λ (y : Body). y.last) (body_after sh s (shaped sh s ok) (changes_of sh s (event.Seal t b)) t b has)
              ∙ ap (λ o. ((cond (is_none o) (record nothing { body = at_both t b sealed }) nothing).body t b (body_at sh s t b)).last) e
              ∙ ap (λ y. (cond (y && (b == b)) (sealed (body_at sh s t b)) (body_at sh s t b)).last) (num_refl t)
              ∙ ap (λ y. (cond y (sealed (body_at sh s t b)) (body_at sh s t b)).last) (num_refl b) ∙ next,
        )
