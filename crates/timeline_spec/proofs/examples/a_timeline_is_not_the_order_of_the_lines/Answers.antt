use Rattle.std.proofs.Common.{◌≡◌, ℕ, Bool, true, false, eqb, [], ◌∷◌, codes, refl, arith}
use Rattle.std.specs.List.{filter}
use Rattle.std.proofs.lemmas.Bool.{eqb-true}
use Rattle.isolation_spec.specs.Machine.{IsolationMachine, opening, step}
use Rattle.isolation_spec.specs.Store.{Answered}
use Rattle.isolation_spec.specs.declared.command.Act.TheVariants as act
use Rattle.isolation_spec.specs.declared.command.Answer.TheVariants as answer
use Rattle.isolation_spec.specs.declared.command.Act.{Act}
use Rattle.workload_spec.specs.declared.command.Command.{Command}
use Rattle.workload_spec.specs.declared.command.Command.TheVariants as command
use Rattle.workload_spec.specs.declared.reply.Said.{Said}
use Rattle.workload_spec.specs.declared.reply.Said.TheVariants as said
use Rattle.workload_spec.specs.declared.reply.Who.{Who}
use Rattle.workload_spec.specs.declared.reply.Who.TheVariants.{Session, Worker}
use Rattle.outcome_spec.specs.Entries.{Entry, is_same}
use Rattle.outcome_spec.specs.Samples.{text_row}
use Rattle.timeline_spec.proofs.examples.a_timeline_is_not_the_order_of_the_lines.Goals as goal

crossed : (p : Entry → Bool) (a b c d : Entry) (first second : Bool) → p a ≡ first → p b ≡ first → p c ≡ second → p d ≡ second → (first ≡ true → second ≡ true → ⊥)
    → filter p (a ∷ b ∷ c ∷ d ∷ []) ≡ filter p (c ∷ d ∷ a ∷ b ∷ [])
crossed p a b c d true true e f g h apart = absurd (apart refl refl)
crossed p a b c d true false e f g h apart = rw (e, f, g, h) refl
crossed p a b c d false true e f g h apart = rw (e, f, g, h) refl
crossed p a b c d false false e f g h apart = rw (e, f, g, h) refl

one_not_two : (n : ℕ) → eqb 1 n ≡ true → eqb 2 n ≡ true → ⊥
one_not_two n a b = omega (arith, eqb-true 1 n a, eqb-true 2 n b)

abbrev reply_at : ℕ → ℕ → ℕ → Command → Said → Entry
reply_at number session index asked told = record { number = number; command = asked; reply = record { round = 1; who = Session session; index = index; said = told } }

abbrev first_begin : Entry
first_begin = reply_at 1 1 1 (command.Begin false) (said.At 0)

abbrev first_insert : Entry
first_insert = reply_at 2 1 2 (command.Insert 0 (text_row 1 (codes "x"))) (said.ConflictSession 2)

abbrev second_begin : Entry
second_begin = reply_at 3 2 1 (command.Begin false) (said.At 0)

abbrev second_insert : Entry
second_insert = reply_at 4 2 2 (command.Insert 0 (text_row 1 (codes "y"))) said.Accepted

abbrev behind : IsolationMachine → ℕ → Act → IsolationMachine
behind machine session act = (step machine (record { session = session; act = act })).1

abbrev one : IsolationMachine
one = behind opening 2 (act.Begin false)

abbrev two : IsolationMachine
two = behind one 2 (act.Insert 0 (text_row 1 (codes "y")))

abbrev three : IsolationMachine
three = behind two 1 (act.Begin false)

apart : (who : Who) → is_same (Session 1) who ≡ true → is_same (Session 2) who ≡ true → ⊥
apart (Session n) a b = one_not_two n a b
apart (Worker n) a b = (let never : ⊥ = cc in never)

never_same : {P : Type 0} → false ≡ true → P
never_same h = absurd (let never : ⊥ = cc in never)

pub returns : goal.returns
returns c = record {
  threads = λ who. crossed (λ entry. is_same entry.reply.who who) first_begin first_insert second_begin second_insert (is_same (Session 1) who) (is_same (Session 2) who) refl refl refl refl (apart who);
  order = (
    (record { not_before = refl; in_turn = λ h. refl }, (record { not_before = refl; in_turn = never_same }, (record { not_before = refl; in_turn = never_same }, tt))),
    ((record { not_before = refl; in_turn = never_same }, (record { not_before = refl; in_turn = never_same }, tt)), ((record { not_before = refl; in_turn = λ h. refl }, tt), (tt, tt))),
  );
  runs = (
    one,
    record { outcome = Answered (answer.At 0); tells = refl; allows = refl },
    tt,
    (two, record { outcome = Answered answer.Accepted; tells = refl; allows = refl }, tt, (three, record { outcome = Answered (answer.At 0); tells = refl; allows = refl }, tt, (three, record { outcome = Answered (answer.ConflictSession 2); tells = refl; allows = refl }, tt, tt))),
  );
}
