-- One of a row served apart from the others, and the desks at which that is done.
use Rattle.std.proofs.Common.{◌≡◌, ℕ, zero, suc, ◌+◌, ◌<◌, ◌≤◌, Bool, true, false, not, nat_lt, ◌&&◌, ◌||◌, List, [], ◌∷◌, ◌++◌, length, get_or, slice_set, Option, None, Some, refl, sym, ap, ◌∙◌, subst, append-nil, arith, length-append, true≢false}
use Rattle.std.specs.List.{list_any}
use Rattle.std.proofs.lemmas.Bool.Decides.{nat_tests}
use Rattle.std.proofs.lemmas.Grind.{elements}
use Rattle.workload_spec.specs.Valid.{is_export}
use Rattle.workload_spec.specs.declared.command.Command.{Command}
use Rattle.run_spec.specs.Calls.{Call}
use Rattle.shared_store.specs.Store.{StoreView, shape_in}
use Rattle.shared_store.specs.declared.session.Session.{Session}
use Rattle.standing_crew.specs.Desk.{Asks, IsHelper}
use Rattle.standing_crew.specs.declared.desk.Desk.{Desk}
use Rattle.standing_crew.specs.declared.desk.Helper.{Helper}
use Rattle.store_rounds.specs.Answered.{SentBy}
use Rattle.store_rounds.specs.Duties.{asks_export, has_export, has_work, is_busy, is_cut}
use Rattle.store_rounds.specs.Served.{CountsCut, MayServe, MayServeRow, OneExportsAtMost, RowServed, RowServedQuietly, Served, ServedQuietly}
use Rattle.store_rounds.specs.Stations.{AreFree, IsAway, IsFree, IsFurnished, LeavesFree}
use Rattle.store_rounds.specs.declared.duty.Duty.{Duty}
use Rattle.store_rounds.specs.declared.duty.Task.{Task}
use Rattle.store_rounds.specs.declared.duty.Task.TheVariants as task
use Rattle.store_rounds.specs.declared.errand.Errand.{Errand}
use Rattle.store_rounds.specs.declared.room.Station.{Station}
use Rattle.store_rounds.proofs.Parts.{both_served, may_back, none_cut_of_none, none_served, not_both, once_back, one_served, quiet_calls}
use Rattle.store_rounds.proofs.Quiet.{neither, row_sent}
use Rattle.store_rounds.proofs.Ranges.{any_default}

-- ---- one

-- one that exports nothing is served with whatever was sent
pub quiet_one : (store : StoreView) (old new : Session) (before after : Duty) (exported exported_now any : Option (List ℕ))
    → asks_export before ≡ false → Served store old new before after exported exported_now → Served store old new before after any any
quiet_one store old new before after exported exported_now any quiet served = record {
  calls = served.calls;
  did = served.did;
  sent = subst (λ (cs : List Call). SentBy (shape_in store).tables cs any any) (append-nil served.calls)
      (row_sent (shape_in store).tables (λ n. served.calls) 1 any
      (λ k low. quiet_calls store old new before after served.calls quiet served.did));
}

module _ (store : StoreView) (one one_now : Session) (duty duty_now : Duty) where
  -- a row of one is served where its one is
  row_of_one : (exported exported_now : Option (List ℕ)) → Served store one one_now duty duty_now exported exported_now
      → RowServed store (one ∷ []) (one_now ∷ []) (duty ∷ []) (duty_now ∷ []) exported exported_now
  row_of_one exported exported_now served =
      one_served store (one ∷ []) one_now one (duty ∷ []) duty_now duty exported exported_now (omega arith) (omega arith) refl served

  module _ (others others_now : List Session) (more more_now : List Duty) where
    -- a row is served where its first is, and then the others are
    pub first_served : (exported exported_now : Option (List ℕ)) → ServedQuietly store one one_now duty duty_now
        → RowServed store others others_now more more_now exported exported_now
        → RowServed store (one ∷ others) (one_now ∷ others_now) (duty ∷ more) (duty_now ∷ more_now) exported exported_now
    first_served exported exported_now first rest =
        both_served store (one ∷ []) (one_now ∷ []) others others_now (duty ∷ []) (duty_now ∷ []) more more_now refl exported exported exported_now
        (row_of_one exported exported (first.served exported)) rest

    -- a row is served where its first is, and the others left the outlet alone
    pub beside_served : (exported exported_now : Option (List ℕ)) → Served store one one_now duty duty_now exported exported_now
        → RowServedQuietly store others others_now more more_now
        → RowServed store (one ∷ others) (one_now ∷ others_now) (duty ∷ more) (duty_now ∷ more_now) exported exported_now
    beside_served exported exported_now first rest =
        both_served store (one ∷ []) (one_now ∷ []) others others_now (duty ∷ []) (duty_now ∷ []) more more_now refl exported exported_now exported_now
        (row_of_one exported exported_now first) (rest.served exported_now)

    -- a row left the outlet alone where its first did, and the others did
    pub quiet_row : ServedQuietly store one one_now duty duty_now → RowServedQuietly store others others_now more more_now
        → RowServedQuietly store (one ∷ others) (one_now ∷ others_now) (duty ∷ more) (duty_now ∷ more_now)
    quiet_row first rest = record {
      none_cut = ap (λ b. b || list_any is_cut more_now) first.not_cut ∙ rest.none_cut;
      served = λ exported. first_served exported exported first (rest.served exported);
    }

-- a row of none left the outlet alone
pub none_quiet : (store : StoreView) (row : List Session) (duties : List Duty) → length row ≡ 0 → length duties ≡ length row
    → RowServedQuietly store row row duties duties
none_quiet store row duties none size = record {
  none_cut = none_cut_of_none duties (size ∙ none);
  served = λ exported. none_served store row duties exported none;
}

-- of none, none was cut
pub none_counted : (duties : List Duty) (count : ℕ) → length duties ≡ 0 → CountsCut (list_any is_cut duties) count count
none_counted duties count none = subst (λ b. CountsCut b count count) (sym (none_cut_of_none duties none)) refl

-- ---- the first of a row, and the others

module _ (store : StoreView) (one : Session) (others : List Session) (duty : Duty) (more : List Duty) where
  -- the first may do its duty
  pub may_first : MayServeRow store (duty ∷ more) (one ∷ others) → MayServe store duty one
  may_first may = may.each 0 one duty (omega arith)

  -- the others may do theirs
  pub may_others : MayServeRow store (duty ∷ more) (one ∷ others) → MayServeRow store more others
  may_others may = may_back store (one ∷ []) others (duty ∷ []) more refl may

module _ (duty : Duty) (more : List Duty) where
  -- at most one of the others exports
  pub once_others : OneExportsAtMost (duty ∷ more) → OneExportsAtMost more
  once_others once = once_back (duty ∷ []) more once

  -- who has nothing to do exports nothing
  idle_is_quiet : (to_do : Option Task) → has_work to_do ≡ false → has_export to_do ≡ false
  idle_is_quiet None idle = refl
  idle_is_quiet (Some (task.Commands commands)) idle = none commands.items idle
    where
      none : (cs : List Command) → nat_lt 0 (length cs) ≡ false → list_any is_export cs ≡ false
      none [] e = refl
      none (c ∷ cs) e = let low : length (c ∷ cs) ≤ 0 = grind (arith, nat_tests, e) in absurd (omega (arith, low))
  idle_is_quiet (Some (task.Turns worker turns)) idle = refl

  idle_are_quiet : (duties : List Duty) → list_any is_busy duties ≡ false → list_any asks_export duties ≡ false
  idle_are_quiet [] idle = refl
  idle_are_quiet (d ∷ duties) idle =
      let parts = neither (is_busy d) (list_any is_busy duties) idle in
      ap (λ b. b || list_any asks_export duties) (idle_is_quiet d.task parts.0) ∙ idle_are_quiet duties parts.1

  -- where the first exports, or no other has something to do, no other exports
  pub others_quiet : OneExportsAtMost (duty ∷ more) → (asks_export duty || not (list_any is_busy more)) ≡ true → list_any asks_export more ≡ false
  others_quiet once stays = go (asks_export duty) refl (list_any is_busy more) refl stays
    where
      go : (a : Bool) → asks_export duty ≡ a → (b : Bool) → list_any is_busy more ≡ b → (a || not b) ≡ true → list_any asks_export more ≡ false
      go true is b busy stays =
          sym (ap (λ (x : Bool). (x || false) && list_any asks_export more) is) ∙ not_both (duty ∷ []) more once
      go false is true busy stays = absurd (true≢false (sym stays))
      go false is false idle stays = idle_are_quiet more idle

  -- where the first does not stay, it exports nothing
  first_quiet : (asks_export duty || not (list_any is_busy more)) ≡ false → asks_export duty ≡ false
  first_quiet leaves = (neither (asks_export duty) (not (list_any is_busy more)) leaves).0

pub first_quiet_of : (duties more : List Duty) (duty : Duty) → duties ≡ duty ∷ more
    → (asks_export duty || not (list_any is_busy more)) ≡ false → asks_export duty ≡ false
first_quiet_of duties more duty is leaves = first_quiet duty more leaves

-- at most one of those behind the first exports
pub once_rest_of : (duties more : List Duty) (duty : Duty) → duties ≡ duty ∷ more → OneExportsAtMost duties → OneExportsAtMost more
once_rest_of duties more duty is once = once_others duty more (subst OneExportsAtMost is once)

module _ (store : StoreView) (row others : List Session) (one : Session) (duties more : List Duty) (duty : Duty)
    (row_is : row ≡ one ∷ others) (duties_are : duties ≡ duty ∷ more) where
  may_both : MayServeRow store duties row → MayServeRow store (duty ∷ more) (one ∷ others)
  may_both may = subst (λ (r : List Session). MayServeRow store (duty ∷ more) r) row_is
      (subst (λ (ds : List Duty). MayServeRow store ds row) duties_are may)

  -- the first of a row, and those behind it, may do what they are to do
  pub may_one_of : MayServeRow store duties row → MayServe store duty one
  may_one_of may = may_first store one others duty more (may_both may)

  pub may_rest_of : MayServeRow store duties row → MayServeRow store more others
  may_rest_of may = may_others store one others duty more (may_both may)

  module _ (one_now : Session) (duty_now : Duty) (others_now : List Session) (more_now : List Duty) where
    as_row : (exported exported_now : Option (List ℕ))
        → RowServed store (one ∷ others) (one_now ∷ others_now) (duty ∷ more) (duty_now ∷ more_now) exported exported_now
        → RowServed store row (one_now ∷ others_now) duties (duty_now ∷ more_now) exported exported_now
    as_row exported exported_now served =
        subst (λ (r : List Session). RowServed store r (one_now ∷ others_now) duties (duty_now ∷ more_now) exported exported_now) (sym row_is)
        (subst (λ (ds : List Duty). RowServed store (one ∷ others) (one_now ∷ others_now) ds (duty_now ∷ more_now) exported exported_now) (sym duties_are) served)

    -- a row is served where its first is, and those behind it are
    pub first_served_of : (exported exported_now : Option (List ℕ)) → ServedQuietly store one one_now duty duty_now
        → RowServed store others others_now more more_now exported exported_now
        → RowServed store row (one_now ∷ others_now) duties (duty_now ∷ more_now) exported exported_now
    first_served_of exported exported_now first rest = as_row exported exported_now
        (first_served store one one_now duty duty_now others others_now more more_now exported exported_now first rest)

    pub beside_served_of : (exported exported_now : Option (List ℕ)) → Served store one one_now duty duty_now exported exported_now
        → RowServedQuietly store others others_now more more_now
        → RowServed store row (one_now ∷ others_now) duties (duty_now ∷ more_now) exported exported_now
    beside_served_of exported exported_now first rest = as_row exported exported_now
        (beside_served store one one_now duty duty_now others others_now more more_now exported exported_now first rest)

    pub quiet_row_of : ServedQuietly store one one_now duty duty_now → RowServedQuietly store others others_now more more_now
        → RowServedQuietly store row (one_now ∷ others_now) duties (duty_now ∷ more_now)
    quiet_row_of first rest =
        let both = quiet_row store one one_now duty duty_now others others_now more more_now first rest in record {
          none_cut = both.none_cut;
          served = λ exported. as_row exported exported (both.served exported);
        }

module _ (duties more : List Duty) (duty : Duty) (is : duties ≡ duty ∷ more) (quiet : list_any asks_export duties ≡ false) where
  none_of_both_ask : (asks_export duty ≡ false) × (list_any asks_export more ≡ false)
  none_of_both_ask = neither (asks_export duty) (list_any asks_export more) (ap (list_any asks_export) (sym is) ∙ quiet)

  -- where none of a row exports, its first does not, and none of those behind it
  pub quiet_first_of : asks_export duty ≡ false
  quiet_first_of = none_of_both_ask.0

  pub quiet_rest_of : list_any asks_export more ≡ false
  quiet_rest_of = none_of_both_ask.1

-- ---- desks

module _ {X Y : Type 0} (F : X → Y → Type 0) where
  -- what holds of each two of lists, and of two more, holds of each two of both
  each_more : (xs : List X) (ys : List Y) (x : X) (y : Y) → length ys ≡ length xs
      → ((k : ℕ) (d : X) (e : Y) → k < length xs → F (get_or xs k d) (get_or ys k e)) → F x y
      → (k : ℕ) (d : X) (e : Y) → k < length (xs ++ x ∷ []) → F (get_or (xs ++ x ∷ []) k d) (get_or (ys ++ y ∷ []) k e)
  each_more [] [] x y size each last zero d e within = last
  each_more [] [] x y size each last (suc k) d e within = absurd (omega (arith, within))
  each_more [] (b ∷ ys) x y size each last k d e within = absurd (omega (arith, size))
  each_more (a ∷ xs) [] x y size each last k d e within = absurd (omega (arith, size))
  each_more (a ∷ xs) (b ∷ ys) x y size each last zero d e within = each 0 a b (omega arith)
  each_more (a ∷ xs) (b ∷ ys) x y size each last (suc k) d e within =
      each_more xs ys x y (omega (arith, size)) (λ j d' e' low. each (suc j) d' e' (omega (arith, low))) last k d e (omega (arith, within))

-- an element is put at a place of a list
module _ {X : Type 0} (xs : List X) (at : ℕ) (new : X) where
  put_size : length (slice_set xs at new) ≡ length xs
  put_size = grind (arith, elements)

  put_here : (d : X) → at < length xs → get_or (slice_set xs at new) at d ≡ new
  put_here d within = grind (arith, elements)

  put_before : (k : ℕ) (d : X) → k < at → get_or (slice_set xs at new) k d ≡ get_or xs k d
  put_before k d low = grind (arith, elements)

  put_behind : (k : ℕ) (d : X) → at < k → get_or (slice_set xs at new) k d ≡ get_or xs k d
  put_behind k d high = grind (arith, elements)

module _ {W : Type 0} (at : ℕ) (desks : List (Desk Errand W)) (stations : List Station) (free : AreFree at desks stations) where
  -- desks leave all in front as it was where nothing is done
  pub left_alone : LeavesFree at desks stations stations
  left_alone = record { free = free; before = λ k s low. refl }

  module _ (away : Station) where
    -- those behind a desk stay free where somebody is sent away from it
    pub free_behind : AreFree (at + 1) desks (slice_set stations at away)
    free_behind = record {
      size = put_size stations at away ∙ free.size;
      each = λ k d s high within.
          subst (IsFree (get_or desks k d)) (sym (put_behind stations at away k s (omega (arith, high)))) (free.each k d s (omega (arith, high)) within);
    }

    module _ (new : List Station) (leaves : LeavesFree (at + 1) desks (slice_set stations at away) new) (within : at < length desks) where
      -- the station is as it was, where those behind left all in front as it was
      pub still_there : (F : Station → Type 0) (d : Station) → F away → F (get_or new at d)
      still_there F d has = subst F (sym (leaves.before at d (omega arith) ∙ put_here stations at away d (let size = free.size in omega (arith, size, within)))) has

      -- desks are free again where it comes back
      pub free_again : (desk : Desk Errand W) (back : Station) → desk ≡ get_or desks at desk → IsFree desk back
          → LeavesFree at desks stations (slice_set new at back)
      free_again desk back is first = record {
        free = record {
          size = put_size new at back ∙ leaves.free.size;
          each = λ k d s high low. each k d s low (nat_lt at k) refl high;
        };
        before = λ k s low. put_before new at back k s low ∙ leaves.before k s (omega (arith, low)) ∙ put_before stations at away k s low;
      }
        where
          here : (d : Desk Errand W) → get_or desks at d ≡ desk
          here d = any_default desks at d desk within ∙ sym is

          each : (k : ℕ) (d : Desk Errand W) (s : Station) → k < length desks → (b : Bool) → nat_lt at k ≡ b → at ≤ k
              → IsFree (get_or desks k d) (get_or (slice_set new at back) k s)
          each k d s low true test high =
              let far : at < k = grind (arith, nat_tests, test) in
              subst (IsFree (get_or desks k d)) (sym (put_behind new at back k s far)) (leaves.free.each k d s (omega (arith, far)) low)
          each k d s low false test high =
              let same : at ≡ k = grind (arith, nat_tests, test, high) in
              let size = leaves.free.size in
              subst (λ n. IsFree (get_or desks n d) (get_or (slice_set new at back) n s)) same
              (subst (λ (x : Desk Errand W). IsFree x (get_or (slice_set new at back) at s)) (sym (here d))
              (subst (IsFree desk) (sym (put_here new at back s (omega (arith, size, within)))) first))

module _ {W : Type 0} (desks : List (Desk Errand W)) (stations : List Station) (helpers : List (Helper Errand)) where
  -- where there is no desk, all are furnished
  pub none_furnished : length desks ≡ 0 → length stations ≡ 0 → length helpers ≡ 0 → IsFurnished desks stations helpers
  none_furnished none no_station no_helper = record {
    free = record {
      size = no_station ∙ sym none;
      each = λ k d s high within. absurd (omega (arith, within, none));
    };
    helped = record {
      size = no_helper ∙ sym none;
      each = λ k d h within. absurd (omega (arith, within, no_helper));
    };
  }

  -- desks stay furnished where one more comes with its station and its helper
  pub one_more : (desk : Desk Errand W) (station : Station) (helper : Helper Errand)
      → IsFurnished desks stations helpers → IsFree desk station → IsHelper desk helper
      → IsFurnished (desks ++ desk ∷ []) (stations ++ station ∷ []) (helpers ++ helper ∷ [])
  one_more desk station helper furnished free helps =
      let size = furnished.free.size in
      let helped = furnished.helped.size in record {
        free = record {
          size = omega (arith, size, length-append desks (desk ∷ []), length-append stations (station ∷ []));
          each = λ k d s high within. each_more IsFree desks stations desk station size (λ j a b low. furnished.free.each j a b (omega arith) low) free k d s within;
        };
        helped = record {
          size = omega (arith, helped, length-append desks (desk ∷ []), length-append helpers (helper ∷ []));
          each = λ k d h within. each_more IsHelper desks helpers desk helper helped
              (λ j a b low. furnished.helped.each j a b (omega (arith, low, helped)))
              helps k d h
              (omega (arith, within, helped, length-append desks (desk ∷ []), length-append helpers (helper ∷ [])));
        };
      }

-- what is left, where all is
pub left_is : {X : Type 0} (left : Option X) (taken all : X) → left ≡ Some taken → left ≡ Some all → taken ≡ all
left_is {X} left taken all one other = ap (or_else taken) (sym one ∙ other)
  where
    or_else : X → Option X → X
    or_else d None = d
    or_else d (Some x) = x

-- who comes back was served as it was sent away
pub as_sent : {W : Type 0} (desk : Desk Errand W) (store : StoreView) (old new : Session) (before after : Duty) (station : Station)
    → ((asked : Errand) → Asks desk (Some asked) station.client → ServedQuietly asked.store.now asked.session new asked.duty after)
    → IsAway desk store old before station → ServedQuietly store old new before after
as_sent desk store old new before after station done is =
    let errand = is.away.errand in
    subst (λ s. ServedQuietly s old new before after) is.store_is
    (subst (λ s. ServedQuietly errand.store.now s new before after) is.session_is
    (subst (λ d. ServedQuietly errand.store.now errand.session new d after) is.duty_is
    (done errand is.away.asks)))

-- who was handed over is away
pub is_away : {W : Type 0} (desk : Desk Errand W) (errand : Errand) (store : StoreView) (session : Session) (duty : Duty) (station : Station)
    → errand.store.now ≡ store → errand.session ≡ session → errand.duty ≡ duty
    → Asks desk (Some errand) station.client → IsAway desk store session duty station
is_away desk errand store session duty station store_is session_is duty_is asks = record {
  away = record { errand = errand; asks = asks };
  store_is = store_is;
  session_is = session_is;
  duty_is = duty_is;
}
