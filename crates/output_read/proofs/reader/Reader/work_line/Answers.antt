use Rattle.std.proofs.Common.{sym, ap, ◌∙◌, Option, None, List, ℕ, length, subst, arith}
use Rattle.std.specs.Prelude.{option_map}
use Rattle.outcome_spec.specs.Lines.{lines_of}
use Rattle.output_read.specs.declared.reader.Front.{Front}
use Rattle.output_read.specs.declared.reader.Heading.{Heading}
use Rattle.output_read.specs.Fronts.{said_first}
use Rattle.output_read.specs.Readers.{lines_left}
use Rattle.output_read.specs.Work.{StepRead}
use Rattle.output_read.proofs.WorkLines.{heading-low, work-nothing, work-other, work-goes}
use Rattle.output_read.proofs.reader.Reader.work_line.Goals as goal

pub returns-in_default-clause-failed : goal.returns-in_default-clause-failed
returns-in_default-clause-failed c =
    work-nothing c.args.self.now c.args.shift c.requires.tables c.requires.reading c.requires.shift c.args.command.now c.requires.speaks
    (sym (ap (λ (f : Option Front). option_map (λ x. x.said) f) c.in_default.is) ∙ c.in_ok-front.ensures.said ∙ ap (λ (h : Heading). said_first c.args.self.now.tables.now h.round h.who h.index (lines_left c.args.self.now)) c.next_heading-heading.ensures)

pub returns-then-not-answers-clause-failed : goal.returns-then-not-answers-clause-failed
returns-then-not-answers-clause-failed c =
    work-other c.args.self.now c.args.shift c.requires.tables c.requires.reading c.requires.shift c.args.command.now c.requires.speaks c.in-Some.front.said
    (sym (ap (λ (f : Option Front). option_map (λ x. x.said) f) c.in-Some.is) ∙ c.in_ok-front.ensures.said ∙ ap (λ (h : Heading). said_first c.args.self.now.tables.now h.round h.who h.index (lines_left c.args.self.now)) c.next_heading-heading.ensures)
    (sym c.if-not-answers.ensures)

pub keep-requires : goal.keep-requires
keep-requires c =
    let a = c.requires.reading.room in
    let b = rw c.in-Some.is at c.in_ok-front.ensures.shorter in
    let d = heading-low c.args.self.now c.args.shift c.requires.tables c.requires.reading c.requires.shift in
    let e = ap (λ (h : Heading). h.index) c.next_heading-heading.ensures in
    record { room = omega (arith, a, b); number = omega (arith, a, b); index = omega (arith, a, b, d, e) }

pub returns-clause-read : goal.returns-clause-read
returns-clause-read c =
    let h = c.next_heading-heading.ensures in
    let said_is = sym (ap (λ (f : Option Front). option_map (λ x. x.said) f) c.in-Some.is) ∙ c.in_ok-front.ensures.said ∙ ap (λ (x : Heading). said_first c.args.self.now.tables.now x.round x.who x.index (lines_left c.args.self.now)) h in
    let behind_is = rw c.in-Some.is at c.in_ok-front.ensures.behind in
    let shorter_is = rw c.in-Some.is at c.in_ok-front.ensures.shorter in
    let rest_is = c.in_ok-keep.ensures.rest in
    let goes = work-goes c.args.self.now c.args.shift c.requires.tables c.requires.reading c.requires.shift c.args.command.now c.requires.speaks
    c.keep.new.self _ c.in-Some.front.said
    (record {
      tables = c.keep.ensures.tables;
      items = c.in_ok-keep.ensures.kept;
      line = c.in_ok-keep.ensures.line;
      rest = ap lines_of rest_is ∙ sym behind_is;
      shorter = let e = ap (λ (xs : List ℕ). length xs) rest_is in omega (arith, e, shorter_is);
      some = omega arith;
    })
    (ap (λ (x : Heading). record { number = c.args.self.now.line; command = None; round = x.round; who = x.who; index = x.index; told = c.in_ok-told.told }) h)
    c.in_ok-told.ensures.said c.in_ok-told.ensures.told said_is (sym c.if-not-answers.ensures) in
    subst (λ (x : Heading). StepRead c.args.self.now c.keep.new.self c.args.shift (record { round = c.args.shift.round; worker = c.args.shift.worker; index = x.index }) c.args.command.now) (sym h) goes
