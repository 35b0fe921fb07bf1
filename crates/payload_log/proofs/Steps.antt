-- The four calls of a record, one after the other.
use Rattle.std.proofs.Common.{◌≡◌, inl, ℕ, ◌+◌, ◌^◌, ◌<◌, List, [], ◌∷◌, ◌++◌, length, refl, sym}
use Rattle.std.proofs.Common.{◌∙◌, ap, subst, Option, Some, drop}
use Rattle.std.proofs.lemmas.List.{append-nil, nil_from_length}
use Rattle.std.specs.Option.{ForSome}
use Rattle.disk_ports.specs.Crashes.{Leaves, LeavesJust, LeavesOnly, NoMore, Elapses}
use Rattle.disk_ports.specs.FileSteps.{Lays, Tears, OnFiles}
use Rattle.disk_ports.proofs.Laying.{drop_nothing}
use Rattle.log_spec.specs.LogText.{front_text, sized, IsLogAt}
use Rattle.payload_log.specs.Logs.{IsBeforeOrAfter, Stands}
use Rattle.disk_ports.proofs.Moments.{started, goes_on}
use Rattle.disk_ports.proofs.Told.{on_some}
use Rattle.payload_log.proofs.Records.{torn_behind, Staged, laid_behind, torn_gate, laid_gate}

module _ {D : Type 0} (told : D → Option (List ℕ)) (may_leave : D → List ℕ → Type 0)
    (moment : D → ℕ) (left_since : D → ℕ → List ℕ → Type 0)
    (only_now : (d : D) (c : List ℕ) → left_since d (moment d) c → may_leave d c)
    (payloads : List (List ℕ)) (payload piece : List ℕ) (gate : ℕ)
    (piece_is : piece ≡ sized payload ++ 0 ∷ []) (short : length payload < 2 ^ 32)
    (d0 : D) (stands : Stands (told d0) (may_leave d0) payloads gate) where
  at_start : LeavesOnly moment left_since d0 d0 (IsBeforeOrAfter payloads payload)
  at_start = started moment left_since d0 (IsBeforeOrAfter payloads payload)
      (λ c left. inl (
        gate,
        subst (IsLogAt payloads gate) (sym (stands.only c (only_now d0 c left)))
            stands.log,
      ))

  module _ (d1 : D) (crash1 : Leaves (gate + 1) (length piece) (may_leave d0) (may_leave d1))
      (time1 : Elapses (moment d0) (moment d1) (left_since d0) (left_since d1) (may_leave d1)) where
    leaves1 : (c : List ℕ) → may_leave d1 c → IsBeforeOrAfter payloads payload c
    leaves1 c now =
        let from = crash1 c now in
        inl (torn_behind payloads payload piece gate stands.bytes stands.log piece_is short
        (length piece) c (subst (λ f. Tears (gate + 1) (length piece) f c)
        (stands.only from.0 from.1) from.2))

    pub after1 : LeavesOnly moment left_since d0 d1 (IsBeforeOrAfter payloads payload)
    after1 = goes_on moment left_since d0 d0 d1 (IsBeforeOrAfter payloads payload) (may_leave d1)
        at_start time1 leaves1

    module _ (d2 : D) (no_more2 : NoMore (may_leave d1) (may_leave d2))
        (time2 : Elapses (moment d1) (moment d2) (left_since d1) (left_since d2) (may_leave d2))
      where
        pub after2 : LeavesOnly moment left_since d0 d2 (IsBeforeOrAfter payloads payload)
        after2 = goes_on moment left_since d0 d1 d2 (IsBeforeOrAfter payloads payload) (may_leave d2)
            after1 time2 (λ c now. leaves1 c (no_more2 c now))

        module _ (lays1 : OnFiles (Lays (gate + 1) piece) (told d0) (told d1))
            (told2 : told d2 ≡ told d1) (only2 : ForSome (told d1) (LeavesJust (may_leave d2))) where
          laid1 : (new : List ℕ) × (told d1 ≡ Some new) × Lays (gate + 1) piece stands.bytes new
          laid1 = on_some (Lays (gate + 1) piece) (told d0) (told d1) stands.bytes stands.told_is
              lays1

          staged1 : Staged payloads payload piece gate stands.bytes stands.log piece_is short laid1.0
          staged1 = laid_behind payloads payload piece gate stands.bytes stands.log piece_is short
              laid1.0 laid1.2

          module _ (d3 : D) (crash3 : Leaves gate 1 (may_leave d2) (may_leave d3))
              (time3 : Elapses (moment d2) (moment d3) (left_since d2) (left_since d3) (may_leave d3))
            where
              leaves3 : (c : List ℕ) → may_leave d3 c → IsBeforeOrAfter payloads payload c
              leaves3 c now =
                  let from = crash3 c now in
                  torn_gate payloads payload piece gate stands.bytes stands.log piece_is short laid1.0 c
                  staged1 (subst (λ f. Tears gate 1 f c) (only2 laid1.0 laid1.1 from.0 from.1)
                  from.2)

              pub after3 : LeavesOnly moment left_since d0 d3 (IsBeforeOrAfter payloads payload)
              after3 = goes_on moment left_since d0 d2 d3 (IsBeforeOrAfter payloads payload)
                  (may_leave d3) after2 time3 leaves3

              module _ (d4 : D) (no_more4 : NoMore (may_leave d3) (may_leave d4))
                  (time4 : Elapses (moment d3) (moment d4) (left_since d3) (left_since d4)
                  (may_leave d4)) where
                pub after4 : LeavesOnly moment left_since d0 d4 (IsBeforeOrAfter payloads payload)
                after4 = goes_on moment left_since d0 d3 d4 (IsBeforeOrAfter payloads payload)
                    (may_leave d4) after3 time4 (λ c now. leaves3 c (no_more4 c now))

                module _ (lays3 : OnFiles (Lays gate (1 ∷ [])) (told d2) (told d3))
                    (told4 : told d4 ≡ told d3) (only4 : ForSome (told d3) (LeavesJust (may_leave d4)))
                  where
                    pub stands4 : Stands (told d4) (may_leave d4) (payloads ++ payload ∷ [])
                        (gate + length piece)
                    stands4 = let new = on_some (Lays gate (1 ∷ [])) (told d2) (told d3) laid1.0
                        (told2 ∙ laid1.1) lays3 in
                        record {
                          bytes = new.0;
                          told_is = told4 ∙ new.1;
                          log = laid_gate payloads payload piece gate stands.bytes stands.log piece_is
                              short laid1.0 new.0 staged1 new.2;
                          only = λ c now. only4 new.0 new.1 c now;
                        }

-- the magic and a closed gate, laid into an empty file, are a log of nothing
pub made : (piece c : List ℕ) → piece ≡ front_text [] ++ 0 ∷ [] → Lays 0 piece [] c → IsLogAt [] 8 c
made piece c piece_is laid = record {
  records = [];
  behind = [];
  same = refl;
  are_open = tt;
  place = refl;
  is =
      laid.is
      ∙ ap (λ (l : List ℕ). [] ++ (l ++ (piece ++ drop (0 + length piece) [])))
      (nil_from_length laid.gap laid.size)
      ∙ ap (λ (l : List ℕ). piece ++ l) (drop_nothing (0 + length piece))
      ∙ append-nil piece ∙ piece_is;
}
