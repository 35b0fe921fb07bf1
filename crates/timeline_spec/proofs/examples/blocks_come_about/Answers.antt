use Rattle.std.proofs.Common.{◌≡◌, ℕ, ◌<◌, ◌≤◌, nat_lt, nat_le, true, false, pos, Some, refl, arith, inl, inr}
use Rattle.std.proofs.lemmas.Bool.Decides.{nat_tests}
use Rattle.isolation_spec.specs.Machine.{IsolationMachine, opening, step}
use Rattle.isolation_spec.specs.Store.{Answered, Freezing, Full}
use Rattle.isolation_spec.specs.declared.command.Act.{Act}
use Rattle.isolation_spec.specs.declared.command.Act.TheVariants as act
use Rattle.isolation_spec.specs.declared.command.Answer.TheVariants as answer
use Rattle.outcome_spec.specs.Samples.{key_row}
use Rattle.timeline_spec.proofs.examples.blocks_come_about.Goals as goal
use Rattle.std.specs.Prelude.{Option, None}
use Rattle.std.proofs.Common.{sym, subst, ap, ◌∙◌, [], ◌∷◌}
use Rattle.isolation_spec.specs.Contents.{WriteSet}
use Rattle.isolation_spec.specs.Machine.{Transaction, transaction_of}
use Rattle.isolation_spec.specs.Reads.{ReadSet}
use Rattle.isolation_spec.specs.Checked.{step_with, stale_read}
use Rattle.isolation_spec.specs.declared.read.Read.{Read}
use Rattle.isolation_spec.specs.declared.command.Answer.{Answer}
use Rattle.std.specs.Prelude.{option_and_then}

unread_writes : (machine : IsolationMachine) (t : Transaction) (own : WriteSet) → stale_read machine t own None ≡ None
unread_writes machine t [] = refl
unread_writes machine t (first ∷ rest) = refl

unread_found : (machine : IsolationMachine) (found : Option Transaction) → option_and_then (λ (t : Transaction). stale_read machine t t.own None) found ≡ None
unread_found machine None = refl
unread_found machine (Some t) = unread_writes machine t t.own

-- a commit that hands in no reads is the machine's
plain_commit : (machine : IsolationMachine) (session : ℕ) (reads : Option ReadSet) (told : Answer × IsolationMachine) → reads ≡ None
    → step machine (record { session = session; act = act.Commit }) ≡ told → step_with machine reads (record { session = session; act = act.Commit }) ≡ told
plain_commit machine session reads told none same =
    subst (λ (r : Option ReadSet). step_with machine r (record { session = session; act = act.Commit }) ≡ told) (sym none)
    (ap (λ (s : Option (Read × ℕ)). elim s [ Some stale ↦ (answer.Stale stale.0 stale.1, machine) | None ↦ step machine (record { session = session; act = act.Commit }) ]) (unread_found machine (transaction_of session machine)) ∙ same)

at_most : (a b : ℕ) → nat_le a b ≡ true → a ≤ b
at_most a b h = grind (arith, nat_tests, h)

less : (a b : ℕ) → nat_lt a b ≡ true → a < b
less a b h = grind (arith, nat_tests, h)

-- the machine after one more act of the session
abbrev behind : IsolationMachine → Act → IsolationMachine
behind machine act = (step machine (record { session = 1; act = act })).1

abbrev after_0 : IsolationMachine
after_0 = behind opening (act.Begin false)

abbrev after_1 : IsolationMachine
after_1 = behind after_0 (act.Insert 0 (key_row 1))

abbrev after_2 : IsolationMachine
after_2 = behind after_1 (act.Insert 0 (key_row 2))

abbrev after_3 : IsolationMachine
after_3 = behind after_2 (act.Insert 0 (key_row 3))

abbrev after_4 : IsolationMachine
after_4 = behind after_3 (act.Insert 0 (key_row 4))

abbrev after_5 : IsolationMachine
after_5 = behind after_4 (act.Insert 0 (key_row 5))

abbrev after_6 : IsolationMachine
after_6 = behind after_5 (act.Insert 0 (key_row 6))

abbrev after_7 : IsolationMachine
after_7 = behind after_6 (act.Insert 0 (key_row 7))

abbrev after_8 : IsolationMachine
after_8 = behind after_7 (act.Insert 0 (key_row 8))

abbrev after_9 : IsolationMachine
after_9 = behind after_8 act.Commit

abbrev after_10 : IsolationMachine
after_10 = behind after_9 (act.Begin false)

abbrev after_11 : IsolationMachine
after_11 = behind after_10 (act.Delete 0 (pos 3))

abbrev after_12 : IsolationMachine
after_12 = behind after_11 act.Commit

pub returns : goal.returns
returns c = (
  (
    (inr (less _ _ refl), refl),
    (
      (inl tt, refl),
      (
        (inl tt, refl),
        (
          (inl tt, refl),
          (
            (inl tt, refl),
            (
              (inl tt, refl),
              (
                (inl tt, refl),
                (
                  (inl tt, refl),
                  (
                    (inl tt, refl),
                    (
                      (inl (less _ _ refl), refl),
                      (
                        (inl (refl, refl, less _ _ refl), refl),
                        (
                          (inr (less _ _ refl), refl),
                          (
                            (inl (refl, less _ _ refl, less _ _ refl), refl),
                            (
                              (inl tt, refl),
                              (
                                (inl (refl, refl, less _ _ refl), refl),
                                (
                                  (inl tt, refl),
                                  (
                                    (inl (less _ _ refl, less _ _ refl, less _ _ refl, less _ _ refl), refl),
                                    (
                                      (inl tt, refl),
                                      (
                                        (inl refl, refl),
                                        (
                                          (inl (less _ _ refl), refl),
                                          (
                                            (inl (less _ _ refl), refl),
                                            (
                                              (inl (less _ _ refl), refl),
                                              (
                                                (inl tt, refl),
                                                ((inl tt, refl), tt),
                                              ),
                                            ),
                                          ),
                                        ),
                                      ),
                                    ),
                                  ),
                                ),
                              ),
                            ),
                          ),
                        ),
                      ),
                    ),
                  ),
                ),
              ),
            ),
          ),
        ),
      ),
    ),
  ),
  (
    after_0,
    record { outcome = Answered (answer.At 0); tells = refl; allows = refl },
    tt,
    (
      after_1,
      record { outcome = Answered answer.Accepted; tells = refl; allows = refl },
      tt,
      (
        after_2,
        record { outcome = Answered answer.Accepted; tells = refl; allows = refl },
        tt,
        (
          after_3,
          record { outcome = Answered answer.Accepted; tells = refl; allows = refl },
          tt,
          (
            after_4,
            record { outcome = Answered answer.Accepted; tells = refl; allows = refl },
            tt,
            (
              after_5,
              record { outcome = Answered answer.Accepted; tells = refl; allows = refl },
              tt,
              (
                after_6,
                record { outcome = Answered answer.Accepted; tells = refl; allows = refl },
                tt,
                (
                  after_7,
                  record { outcome = Answered answer.Accepted; tells = refl; allows = refl },
                  tt,
                  (
                    after_8,
                    record { outcome = Answered answer.Accepted; tells = refl; allows = refl },
                    tt,
                    (
                      after_9,
                      record { outcome = Answered (answer.Committed (Some 1)); tells = refl; allows = plain_commit after_8 1 _ _ refl refl },
                      tt,
                      (
                        after_9,
                        ((refl, refl), refl),
                        (refl, refl),
                        (
                          after_10,
                          record { outcome = Answered (answer.At 1); tells = refl; allows = refl },
                          tt,
                          (
                            after_10,
                            record { outcome = Freezing; tells = (0, 0, 1, refl); allows = (tt, refl, refl) },
                            (refl, refl),
                            (
                              after_10,
                              record { outcome = Full; tells = refl; allows = (tt, refl, refl) },
                              at_most _ _ refl,
                              (
                                after_10,
                                ((refl, refl), refl),
                                (refl, at_most _ _ refl, at_most _ _ refl),
                                (
                                  after_10,
                                  ((refl, refl), refl),
                                  refl,
                                  (
                                    after_10,
                                    (record { clean = refl; snapshot = refl; rows_are = refl; some_rows = at_most _ _ refl; full_blocks = at_most _ _ refl; blocks = at_most _ _ refl; images = at_most _ _ refl; were_frozen = at_most _ _ refl }, refl),
                                    tt,
                                    (
                                      after_11,
                                      record { outcome = Answered answer.Accepted; tells = refl; allows = refl },
                                      tt,
                                      (
                                        after_11,
                                        (refl, refl),
                                        tt,
                                        (
                                          after_12,
                                          record { outcome = Answered (answer.Committed (Some 2)); tells = refl; allows = plain_commit after_11 1 _ _ refl refl },
                                          tt,
                                          (
                                            after_12,
                                            ((refl, refl), refl),
                                            at_most _ _ refl,
                                            (
                                              after_12,
                                              ((refl, refl), refl),
                                              at_most _ _ refl,
                                              (
                                                after_12,
                                                ((refl, refl), refl),
                                                tt,
                                                (after_12, ((refl, refl), refl), tt, tt),
                                              ),
                                            ),
                                          ),
                                        ),
                                      ),
                                    ),
                                  ),
                                ),
                              ),
                            ),
                          ),
                        ),
                      ),
                    ),
                  ),
                ),
              ),
            ),
          ),
        ),
      ),
    ),
  ),
)
