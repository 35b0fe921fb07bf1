use Rattle.std.proofs.Common.{◌≡◌, ◌≤◌, ◌+◌, ◌∙◌, ◌++◌, ◌∷◌, [], sym, List, ℕ, take, drop, length, length-append, append_assoc, ap, arith, subst}
use Rattle.std.specs.Prelude.{flat_map}
use Rattle.std.proofs.lemmas.List.{flat_map_more, take_all, take_more}
use Rattle.arrow_spec.specs.DictBatches.{DictBatch}
use Rattle.arrow_spec.specs.Streams.{end_word, messages_of_dicts}
use Rattle.ipc_write.specs.Calls.{SinkFailed, WroteAll}
use Rattle.ipc_write.specs.declared.faults.SinkFault.{SinkFault}
use Rattle.ipc_write.proofs.PieceLemmas.{failed-behind, pieces-around, run-broken, wrote-both}
use Rattle.ipc_write.proofs.writer.Writer.dict_batches.Goals as goal

pub loop-dicts-preserved : goal.loop-dicts-preserved
loop-dicts-preserved g c =
    let item : DictBatch = c.dicts-item.result in
    let index : ℕ = c.loop-dicts.dicts-index in
    let batches : List DictBatch = c.args.batches.now in
    let front : List DictBatch = take index batches in
    let more : flat_map messages_of_dicts front ++ messages_of_dicts item ≡ flat_map messages_of_dicts (take (index + 1) batches) =
    flat_map_more messages_of_dicts [] front item
    ∙ ap (λ (d : DictBatch). flat_map messages_of_dicts (front ++ d ∷ [])) c.dicts-item.is
    ∙ ap (flat_map messages_of_dicts) (sym (take_more batches index item c.loop-dicts-test.true)) in
    record {
      wrote =
          subst (λ (bytes : List ℕ). WroteAll g.W.Sink.written g.W.Sink.faults c.args.self.now c.dicts.new.self bytes) more
          (wrote-both g.W.Sink.written g.W.Sink.faults c.args.self.now c.loop-dicts.self c.dicts.new.self
          (flat_map messages_of_dicts front) (messages_of_dicts item) c.loop-dicts.invariant.wrote c.in-Ok.ensures.answer);
      told = c.dicts.ensures.told ∙ c.loop-dicts.invariant.told;
      started = c.dicts.ensures.started ∙ c.loop-dicts.invariant.started;
      loan = c.dicts.ensures.loan ∙ c.loop-dicts.invariant.loan;
      counted = omega (arith, c.dicts.ensures.counted, c.loop-dicts.invariant.counted);
    }

pub returns-in-Err-clause-answer : goal.returns-in-Err-clause-answer
returns-in-Err-clause-answer g c =
    let item : DictBatch = c.dicts-item.result in
    let index : ℕ = c.loop-dicts.dicts-index in
    let batches : List DictBatch = c.args.batches.now in
    let first : List ℕ = flat_map messages_of_dicts (take index batches) in
    let piece : List ℕ = messages_of_dicts item in
    let more : List ℕ = flat_map messages_of_dicts (drop (index + 1) batches) in
    let whole : flat_map messages_of_dicts batches ++ end_word ≡ first ++ (piece ++ (more ++ end_word)) =
    ap (λ (bytes : List ℕ). bytes ++ end_word) (pieces-around messages_of_dicts batches item index c.loop-dicts-test.true c.dicts-item.is)
    ∙ append_assoc first (piece ++ more) end_word
    ∙ ap (λ (bytes : List ℕ). first ++ bytes) (append_assoc piece more end_word) in
    run-broken g.W.Sink.written g.W.Sink.faults c.args.self.now c.loop-dicts.self c.dicts.new.self first piece (more ++ end_word)
    (flat_map messages_of_dicts batches ++ end_word) c.in-Err.fault c.loop-dicts.invariant.wrote c.loop-dicts.invariant.counted
    c.in-Err.ensures.answer (omega (arith, length-append more end_word)) whole

-- all batches were written
module _ (batches : List DictBatch) (index : ℕ) (past : length batches ≤ index) where
  all-written : flat_map messages_of_dicts (take index batches) ++ end_word ≡ flat_map messages_of_dicts batches ++ end_word
  all-written = ap (λ (all : List DictBatch). flat_map messages_of_dicts all ++ end_word) (take_all index batches past)

pub returns-in-Ok-finish-clause-answer : goal.returns-in-Ok-finish-clause-answer
returns-in-Ok-finish-clause-answer g c =
    let batches : List DictBatch = c.args.batches.now in
    let index : ℕ = c.loop-dicts.dicts-index in
    subst
    (λ (bytes : List ℕ). WroteAll g.W.Sink.written g.W.Sink.faults c.args.self.now c.finish.new.self bytes)
    (all-written batches index (omega (arith, c.loop-dicts-test.false)))
    (wrote-both g.W.Sink.written g.W.Sink.faults c.args.self.now c.loop-dicts.self c.finish.new.self
    (flat_map messages_of_dicts (take index batches)) end_word c.loop-dicts.invariant.wrote c.in-Ok-finish.ensures.answer)

pub returns-in-Err-finish-clause-answer : goal.returns-in-Err-finish-clause-answer
returns-in-Err-finish-clause-answer g c =
    let batches : List DictBatch = c.args.batches.now in
    let index : ℕ = c.loop-dicts.dicts-index in
    let fault : SinkFault = c.in-Err-finish.fault in
    subst
    (λ (bytes : List ℕ). SinkFailed g.W.Sink.written g.W.Sink.faults c.args.self.now c.finish.new.self bytes fault.earlier)
    (all-written batches index (omega (arith, c.loop-dicts-test.false)))
    (failed-behind g.W.Sink.written g.W.Sink.faults c.args.self.now c.loop-dicts.self c.finish.new.self
    (flat_map messages_of_dicts (take index batches)) end_word fault.earlier
    c.loop-dicts.invariant.wrote c.loop-dicts.invariant.counted c.in-Err-finish.ensures.answer)
