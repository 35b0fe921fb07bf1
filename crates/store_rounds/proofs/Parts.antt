-- Rows at work: a row of one at most, and a row in two parts.
use Rattle.std.proofs.Common.{◌≡◌, ℕ, ◌+◌, ◌-◌, ◌<◌, ◌≤◌, nat_le, Bool, true, false, ◌&&◌, ◌||◌, List, [], ◌∷◌, ◌++◌, length, get_or, slice_set, Option, None, Some, Ok, Err, refl, sym, ap, ◌∙◌, subst, append-nil, arith, length-append, true≢false}
use Rattle.std.specs.Prelude.{◌≢◌, IfErr, OnOk, Result}
use Rattle.std.specs.Global.{Vec as GlobalVec}
use Rattle.std.specs.List.{list_any}
use Rattle.std.proofs.lemmas.Bool.Decides.{nat_tests}
use Rattle.std.proofs.lemmas.Grind.{elements}
use Rattle.std.proofs.lemmas.List.Elements.{All-nil}
use Rattle.workload_spec.specs.Valid.{is_export}
use Rattle.workload_spec.specs.declared.command.Command.{Command}
use Rattle.run_spec.specs.Calls.{Call}
use Rattle.run_laws.proofs.Rounds.Working.{nothing_done}
use Rattle.run_laws.specs.Rounds.Texts.{IsCounted}
use Rattle.shared_store.specs.Store.{StoreView, seen, shape_in}
use Rattle.shared_store.specs.declared.session.Session.{Session}
use Rattle.store_rounds.specs.Answered.{SentBy}
use Rattle.store_rounds.specs.Crews.{calls_of}
use Rattle.store_rounds.specs.Duties.{asks_export, is_cut, is_cut_end}
use Rattle.store_rounds.specs.Served.{CarriedOut, CountsCut, OneExportsAtMost, MayServe, MayServeRow, RowServed, Served, ServedBy, SessionServed, is_of_worker, most_of_task, asked_of_task, who_of}
use Rattle.store_rounds.specs.Turned.{TurnsMade}
use Rattle.store_rounds.specs.Worked.{asked_in}
use Rattle.store_rounds.specs.Workloads.{CountsExportFault}
use Rattle.store_rounds.specs.declared.duty.Duty.{Duty}
use Rattle.store_rounds.specs.declared.duty.Task.{Task}
use Rattle.store_rounds.specs.declared.duty.Task.TheVariants as task
use Rattle.store_rounds.specs.declared.fault.RunFault.{RunFault}
use Rattle.store_rounds.specs.declared.fault.RunFault.TheVariants as fault
use Rattle.store_rounds.proofs.Quiet.{asks_none, none_of_both, row_sent}
use Rattle.store_rounds.proofs.Ranges.{at_back, at_front, any_default, any_of, joined, joined_back, joined_front, joined_flat, some_place}
use Rattle.store_rounds.proofs.Sends.{calls_sent, nothing_sent}
use Rattle.store_rounds.proofs.Turns.{never_cut, never_out, whole_not_cut, whole_not_out}

-- ---- one

-- one did what this task asks
as_asked : (store : StoreView) (old new : Session) (before after : Duty) (to_do : Option Task) (calls : List Call) → before.task ≡ to_do
    → CarriedOut store (is_of_worker to_do) (who_of to_do old) before.lines.round (most_of_task to_do calls) old new (asked_of_task (shape_in store).tables to_do)
    before.lines.text.items after.lines.text.items after.ended calls
    → ServedBy store old new before after calls
as_asked store old new before after to_do calls is did =
    subst (λ (t : Option Task). CarriedOut store (is_of_worker t) (who_of t old) before.lines.round (most_of_task t calls) old new (asked_of_task (shape_in store).tables t)
    before.lines.text.items after.lines.text.items after.ended calls) (sym is) did

-- an option that is not some is none
pub none_of : {X : Type 0} (o : Option X) → ((x : X) → o ≡ Some x → ⊥) → o ≡ None
none_of None other = refl
none_of (Some x) other = absurd (other x refl)

-- one that has nothing to do
pub nothing_served : (store : StoreView) (session : Session) (before after : Duty) (exported : Option (List ℕ))
    → MayServe store before session → before.task ≡ None → after.ended ≡ before.ended → after.lines.text.items ≡ before.lines.text.items
    → Served store session session before after exported exported
nothing_served store session before after exported may none ended text = record {
  calls = [];
  did = as_asked store session session before after None [] none (record {
    worked = record { is_session = may.is_session; same = refl; works = nothing_done (shape_in store) false session.session (seen session); counted = All-nil IsCounted; kept = refl; keeps = λ taken keeps. keeps; few = omega arith };
    rest = [];
    asked = refl;
    whole = λ e. refl;
    last = λ e. absurd (true≢false (sym e ∙ ap is_cut_end ended ∙ whole_not_cut before.ended may.unhurt));
    text = text_of after.ended;
    not_out = subst (λ r. IfErr r (λ failed. failed ≢ fault.Out)) (sym ended) (whole_not_out before.ended may.unhurt);
  });
  sent = nothing_sent (shape_in store).tables exported;
}
  where
    text_of : {T : Type 0} (r : Result T RunFault) → OnOk r (after.lines.text.items ≡ before.lines.text.items ++ [])
    text_of (Ok value) = text ∙ sym (append-nil before.lines.text.items)
    text_of (Err failed) = tt

-- a session carried out its commands
pub session_served : (store : StoreView) (old new : Session) (before after : Duty) (commands : GlobalVec Command) (exported exported_now : Option (List ℕ))
    → before.task ≡ Some (task.Commands commands)
    → SessionServed store before.lines.round old new commands.items before.lines.text.items after.lines.text.items after.ended exported exported_now
    → Served store old new before after exported exported_now
session_served store old new before after commands exported exported_now is served = record {
  calls = served.calls;
  did = as_asked store old new before after (Some (task.Commands commands)) served.calls is served.did;
  sent = served.sent;
}

-- a worker made its turns
pub worker_served : (store : StoreView) (old new : Session) (before after : Duty) (worker turns : ℕ) (exported : Option (List ℕ))
    → before.task ≡ Some (task.Turns worker turns)
    → TurnsMade store before.lines.round worker turns old new before.lines.text.items after.lines.text.items after.ended
    → IfErr after.ended (λ failed. failed ≡ fault.Memory)
    → Served store old new before after exported exported
worker_served store old new before after worker turns exported is made memory = record {
  calls = made.calls;
  did = as_asked store old new before after (Some (task.Turns worker turns)) made.calls is (record {
    worked = made.worked;
    rest = [];
    asked = sym made.asked ∙ sym (append-nil (asked_in made.calls));
    whole = λ e. refl;
    last = λ e. absurd (true≢false (sym e ∙ never_cut after.ended memory));
    text = made.text;
    not_out = never_out after.ended memory;
  });
  sent = subst (λ (cs : List Call). SentBy (shape_in store).tables cs exported exported) (append-nil made.calls)
      (row_sent (shape_in store).tables (λ n. made.calls) 1 exported
      (λ k low. ap (list_any is_export) made.asked ∙ asks_none (shape_in store).tables (Some (task.Turns worker turns)) refl));
}

-- the count of the outlet's faults, by how one ended
pub counts_cut : {T : Type 0} (before now : ℕ) (r : Result T RunFault) → CountsExportFault before now r → CountsCut (is_cut_end r) before now
counts_cut before now (Ok value) counts = counts
counts_cut before now (Err fault.Out) counts = counts
counts_cut before now (Err fault.Export) counts = counts
counts_cut before now (Err fault.Memory) counts = counts
counts_cut before now (Err fault.Log) counts = counts
counts_cut before now (Err fault.GroupTooLong) counts = counts

-- where only memory was refused, the count of the outlet's faults stays
pub counts_kept : {T : Type 0} (count : ℕ) (r : Result T RunFault) → IfErr r (λ failed. failed ≡ fault.Memory) → CountsCut (is_cut_end r) count count
counts_kept count r memory = subst (λ b. CountsCut b count count) (sym (never_cut r memory)) refl

-- ---- places

module _ {X : Type 0} where
  -- What was put at the first place is read there.
  set_first : (xs : List X) (new : X) (k : ℕ) (d : X) → k ≡ 0 → 0 < length xs → get_or (slice_set xs 0 new) k d ≡ new
  set_first xs new k d here some = grind (arith, elements)

  -- Putting an element at the first place keeps how many there are.
  set_size : (xs : List X) (new : X) → length (slice_set xs 0 new) ≡ length xs
  set_size xs new = grind (arith, elements)

-- ---- what rows may do

module _ (store : StoreView) (front back : List Session) (first second : List Duty) (size : length first ≡ length front)
    (may : MayServeRow store (first ++ second) (front ++ back)) where
  -- the second part of a row may do its duties
  pub may_back : MayServeRow store second back
  may_back = record {
    size = omega (arith, may.size, size, length-append front back, length-append first second);
    each = λ k d e within.
        subst (λ s. MayServe store (get_or second k e) s) (at_back front back (length front) k d refl)
        (subst (λ a. MayServe store a (get_or (front ++ back) (length front + k) d)) (at_back first second (length front) k e size)
        (may.each (length front + k) d e (omega (arith, within, length-append front back))));
  }

module _ (first second : List Duty) (once : OneExportsAtMost (first ++ second)) where
  -- at most one of the second part exports
  pub once_back : OneExportsAtMost second
  once_back j k d low high one other =
      let same = once (length first + j) (length first + k) d (omega (arith, low, length-append first second)) (omega (arith, high, length-append first second))
      (ap asks_export (at_back first second (length first) j d refl) ∙ one) (ap asks_export (at_back first second (length first) k d refl) ∙ other) in
      omega (arith, same)

  -- not both parts export
  pub not_both : (list_any asks_export first && list_any asks_export second) ≡ false
  not_both = go (list_any asks_export first) refl (list_any asks_export second) refl
    where
      go : (a : Bool) → list_any asks_export first ≡ a → (b : Bool) → list_any asks_export second ≡ b → (a && b) ≡ false
      go false is b has = refl
      go true is false has = refl
      go true is true has =
          let one = some_place asks_export first is in
          let other = some_place asks_export second has in
          let d : Duty = any_of first one.0 one.1 in
          let same = once one.0 (length first + other.0) d (omega (arith, one.1, length-append first second)) (omega (arith, other.1, length-append first second))
          (ap asks_export (at_front first second one.0 d one.1) ∙ one.2 d)
          (ap asks_export (at_back first second (length first) other.0 d refl) ∙ other.2 d) in
          absurd (omega (arith, same, one.1))

-- ---- a row of one at most

-- one of a row did
served_as : (store : StoreView) (o p n m : Session) (b c a e : Duty) (calls did : List Call) → o ≡ p → n ≡ m → b ≡ c → a ≡ e → calls ≡ did
    → ServedBy store p m c e did → ServedBy store o n b a calls
served_as store o p n m b c a e calls did old new before after same served =
    subst (λ q. ServedBy store q n b a calls) (sym old)
    (subst (λ q. ServedBy store p q b a calls) (sym new)
    (subst (λ q. ServedBy store p m q a calls) (sym before)
    (subst (λ q. ServedBy store p m c q calls) (sym after)
    (subst (λ q. ServedBy store p m c e q) (sym same) served))))

-- a row of none has done all that it was to do
pub none_served : (store : StoreView) (row : List Session) (duties : List Duty) (exported : Option (List ℕ)) → length row ≡ 0
    → RowServed store row row duties duties exported exported
none_served store row duties exported none = record {
  calls = λ n. [];
  size = refl;
  duties = refl;
  each = λ k d e within. absurd (omega (arith, within, none));
  sent = subst (λ n. SentBy (shape_in store).tables (calls_of n (λ n. [])) exported exported) (sym none) (nothing_sent (shape_in store).tables exported);
}

-- none of no duties was cut
pub none_cut_of_none : (duties : List Duty) → length duties ≡ 0 → list_any is_cut duties ≡ false
none_cut_of_none [] none = refl
none_cut_of_none (duty ∷ duties) none = absurd (omega (arith, none))

module _ (store : StoreView) (row : List Session) (new session : Session) (duties : List Duty) (after duty : Duty) (exported exported_now : Option (List ℕ))
    (some : 0 < length row) (one : length row < 2) (size : length duties ≡ length row) where
  -- a row of one has done what its one session did
  pub one_served : Served store (get_or row 0 session) new (get_or duties 0 duty) after exported exported_now
      → RowServed store row (slice_set row 0 new) duties (slice_set duties 0 after) exported exported_now
  one_served served = record {
    calls = λ n. served.calls;
    size = set_size row new;
    duties = set_size duties after;
    each = λ k d e within.
        let here : k ≡ 0 = omega (arith, within, one) in
        served_as store (get_or row k d) (get_or row 0 session) (get_or (slice_set row 0 new) k d) new
        (get_or duties k e) (get_or duties 0 duty) (get_or (slice_set duties 0 after) k e) after served.calls served.calls
        (any_default row k d session within ∙ ap (λ n. get_or row n session) here)
        (set_first row new k d here some)
        (any_default duties k e duty (omega (arith, within, size)) ∙ ap (λ n. get_or duties n duty) here)
        (set_first duties after k e here (omega (arith, some, size)))
        refl served.did;
    sent = subst (λ n. SentBy (shape_in store).tables (calls_of n (λ n. served.calls)) exported exported_now) (let e : 1 ≡ length row = omega (arith, some, one) in e)
        (subst (λ (cs : List Call). SentBy (shape_in store).tables cs exported exported_now) (sym (append-nil served.calls)) served.sent);
  }

-- ---- two parts of a row

module _ (store : StoreView) (front front_now back back_now : List Session) (first first_now second second_now : List Duty) (size : length first ≡ length front) where
  -- a row is served where its parts are, one after the other
  pub both_served : (exported between exported_now : Option (List ℕ))
      → RowServed store front front_now first first_now exported between
      → RowServed store back back_now second second_now between exported_now
      → RowServed store (front ++ back) (front_now ++ back_now) (first ++ second) (first_now ++ second_now) exported exported_now
  both_served exported between exported_now one other = record {
    calls = joined (length front) one.calls other.calls;
    size = length-append front_now back_now ∙ ap (λ n. n + length back_now) one.size ∙ ap (λ n. length front + n) other.size ∙ sym (length-append front back);
    duties = length-append first_now second_now ∙ ap (λ n. n + length second_now) one.duties ∙ ap (λ n. length first + n) other.duties ∙ sym (length-append first second);
    each = λ k d e within. go k d e within (nat_le (k + 1) (length front)) refl;
    sent = subst (λ (cs : List Call). SentBy (shape_in store).tables cs exported exported_now)
        (sym (ap (λ n. calls_of n (joined (length front) one.calls other.calls)) (length-append front back) ∙ joined_flat (length front) (length back) one.calls other.calls))
        (calls_sent (shape_in store).tables (calls_of (length front) one.calls) (calls_of (length back) other.calls) exported between exported_now one.sent other.sent);
  }
    where
      go : (k : ℕ) (d : Session) (e : Duty) → k < length (front ++ back) → (b : Bool) → nat_le (k + 1) (length front) ≡ b
          → ServedBy store (get_or (front ++ back) k d) (get_or (front_now ++ back_now) k d) (get_or (first ++ second) k e) (get_or (first_now ++ second_now) k e)
          (joined (length front) one.calls other.calls (k + 1))
      go k d e within true is =
          let low : k < length front = grind (arith, nat_tests, is) in
          served_as store (get_or (front ++ back) k d) (get_or front k d) (get_or (front_now ++ back_now) k d) (get_or front_now k d)
          (get_or (first ++ second) k e) (get_or first k e) (get_or (first_now ++ second_now) k e) (get_or first_now k e)
          (joined (length front) one.calls other.calls (k + 1)) (one.calls (k + 1))
          (at_front front back k d low) (at_front front_now back_now k d (omega (arith, low, one.size)))
          (at_front first second k e (omega (arith, low, size))) (at_front first_now second_now k e (omega (arith, low, size, one.duties)))
          (joined_front (length front) one.calls other.calls (k + 1) (omega (arith, low)))
          (one.each k d e low)
      go k d e within false is =
          let high : length front ≤ k = grind (arith, nat_tests, is) in
          let j : ℕ = k - length front in
          let at' : length front + j ≡ k = omega (arith, high) in
          let inside : j < length back = omega (arith, at', within, length-append front back) in
          served_as store (get_or (front ++ back) k d) (get_or back j d) (get_or (front_now ++ back_now) k d) (get_or back_now j d)
          (get_or (first ++ second) k e) (get_or second j e) (get_or (first_now ++ second_now) k e) (get_or second_now j e)
          (joined (length front) one.calls other.calls (k + 1)) (other.calls (j + 1))
          (ap (λ n. get_or (front ++ back) n d) (sym at') ∙ at_back front back (length front) j d refl)
          (ap (λ n. get_or (front_now ++ back_now) n d) (sym at') ∙ at_back front_now back_now (length front) j d one.size)
          (ap (λ n. get_or (first ++ second) n e) (sym at') ∙ at_back first second (length front) j e size)
          (ap (λ n. get_or (first_now ++ second_now) n e) (sym at') ∙ at_back first_now second_now (length front) j e (one.duties ∙ size))
          (joined_back (length front) one.calls other.calls (k + 1) (j + 1) (omega (arith, at')) (omega arith))
          (other.each j d e inside)

-- ---- rows without an export

-- the calls of one that exports nothing
pub quiet_calls : (store : StoreView) (old new : Session) (before after : Duty) (calls : List Call) → asks_export before ≡ false
    → ServedBy store old new before after calls → list_any is_export (asked_in calls) ≡ false
quiet_calls store old new before after calls quiet did =
    (none_of_both is_export (asked_in calls) did.rest
    (ap (list_any is_export) (sym did.asked) ∙ asks_none (shape_in store).tables before.task quiet)).0

-- a count that cannot rise
pub never_rose : (b : Bool) → CountsCut b 0 0 → b ≡ false
never_rose true rose = let low = rose (λ e. absurd (let never : ⊥ = cc e in never)) in absurd (omega (arith, low))
never_rose false same = refl

-- ---- the outlet's faults

-- where the first part had no fault of the outlet, the count of the second is that of both
pub cut_of_second : (a b : Bool) (before now : ℕ) → a ≡ false → CountsCut b before now → CountsCut (a || b) before now
cut_of_second a b before now none counts = subst (λ c. CountsCut (c || b) before now) (sym none) counts

-- where the second part had no fault of the outlet, the count of the first is that of both
pub cut_of_first : (a b : Bool) (before now : ℕ) → b ≡ false → CountsCut a before now → CountsCut (a || b) before now
cut_of_first true b before now none counts = counts
cut_of_first false b before now none counts = subst (λ c. CountsCut c before now) (sym none) counts
