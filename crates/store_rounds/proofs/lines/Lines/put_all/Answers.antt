use Rattle.std.proofs.Common.{◌≡◌, ℕ, ◌+◌, List, [], ◌∷◌, ◌++◌, length, refl, sym, ap, ◌∙◌, append-nil, append_assoc, arith, length-append}
use Rattle.std.specs.Vec.Iter.{into_iter_items}
use Rattle.std.proofs.lemmas.List.{length_push}
use Rattle.workload_spec.specs.ReplyText.{replies_text, reply_text}
use Rattle.workload_spec.specs.declared.reply.Said.{Said}
use Rattle.workload_spec.specs.declared.reply.Who.TheVariants.{Worker as TheWorker}
use Rattle.run_laws.specs.Rounds.Lines.{line_of}
use Rattle.store_rounds.specs.Turned.{lines_behind}
use Rattle.store_rounds.proofs.Turns.{none_left}
use Rattle.store_rounds.proofs.WorkerTurns.{line_more}
use Rattle.store_rounds.proofs.lines.Lines.put_all.Goals as goal

pub loop-said-init : goal.loop-said-init
loop-said-init c = record {
  grown = sym (append-nil c.args.self.now.text.items);
  round = refl;
  split = c.into_iter-said-iterator.ensures.into_iter_gives.0;
  counted = omega arith;
}

pub overflow_add-index : goal.overflow_add-index
overflow_add-index c =
    let inv = c.loop-said.invariant in
    let all = ap length inv.split in
    let parted = length-append c.loop-said.yielded (into_iter_items c.loop-said.said-iterator) in
    let next = ap length c.in-Some.ensures.steps.0 in
    omega (arith, inv.counted, all, parted, next, c.requires.few)

pub loop-said-preserved : goal.loop-said-preserved
loop-said-preserved c =
    let inv = c.loop-said.invariant in
    let rest : List Said = into_iter_items c.next.new.self in
    let split : c.loop-said.yielded ++ c.in-Some.said ∷ rest ≡ c.args.told.items =
    ap (λ (told : List Said). c.loop-said.yielded ++ told) (sym c.in-Some.ensures.steps.0) ∙ inv.split in
    let line : ℕ → List ℕ = λ (round : ℕ).
    reply_text c.args.tables.now (line_of round (TheWorker c.args.worker) (c.loop-said.index + 1) c.in-Some.said) in
    let front : List ℕ = replies_text c.args.tables.now (lines_behind c.args.self.now.round (TheWorker c.args.worker) c.args.count c.loop-said.yielded) in
    record {
      grown = c.in_ok-put.ensures.ok
          ∙ ap (λ (round : ℕ). c.loop-said.self.text.items ++ line round) inv.round
          ∙ ap (λ (text : List ℕ). text ++ line c.args.self.now.round) inv.grown
          ∙ append_assoc c.args.self.now.text.items front (line c.args.self.now.round)
          ∙ ap (λ (text : List ℕ). c.args.self.now.text.items ++ text)
          (sym (line_more c.args.tables.now c.args.self.now.round (TheWorker c.args.worker) c.args.count c.loop-said.index c.loop-said.yielded c.in-Some.said inv.counted));
      round = c.put.ensures.round ∙ inv.round;
      split = append_assoc c.loop-said.yielded (c.in-Some.said ∷ []) rest ∙ split;
      counted = omega (arith, inv.counted, length_push c.loop-said.yielded c.in-Some.said);
    }

pub returns-clause-ok : goal.returns-clause-ok
returns-clause-ok c =
    let inv = c.loop-said.invariant in
    let all : c.loop-said.yielded ≡ c.args.told.items =
    none_left c.loop-said.yielded (into_iter_items c.loop-said.said-iterator) c.args.told.items
    (omega (arith, c.in-None.ensures.steps.0, c.loop-said.said-iterator.rest.ok.0)) inv.split in
    inv.grown
    ∙ ap (λ (told : List Said). c.args.self.now.text.items ++ replies_text c.args.tables.now (lines_behind c.args.self.now.round (TheWorker c.args.worker) c.args.count told)) all
