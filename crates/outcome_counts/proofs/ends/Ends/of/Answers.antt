use Rattle.std.proofs.Common.{◌≡◌, ◌∙◌, ◌+◌, ◌-◌, ap, sym, subst, ℕ, List, [], ◌∷◌, ◌++◌, length, take, drop, Option, arith, append_assoc}
use Rattle.std.specs.Prelude.{unwrap_or}
use Rattle.std.proofs.lemmas.List.{take_at, drop_at, length-append, length-map}
use Rattle.workload_spec.specs.declared.reply.Who.TheVariants.{Session}
use Rattle.outcome_spec.specs.Entries.{Entry}
use Rattle.output_read.specs.Kept.{entries_of, entry_of}
use Rattle.outcome_counts.proofs.Starts.{kept-at}
use Rattle.outcome_counts.specs.Ends.{AreEnds, ended_of}
use Rattle.outcome_counts.proofs.Cuts.{one-cut}
use Rattle.outcome_counts.proofs.Ended.{Known, known-next, ends-next, own-end}
use Rattle.outcome_counts.proofs.ends.Ends.of.Goals as goal

pub loop-back-preserved : goal.loop-back-preserved
loop-back-preserved c =
    let replies = c.args.replies.now in
    let es = entries_of replies in
    let n : ℕ = length replies in
    let back : ℕ = c.loop-back.back in
    let place : ℕ = n - 1 - back in
    let reply = c.index-replies-place.result in
    let entry : Entry = entry_of reply in
    let inside = c.loop-back-test.true in
    let at = kept-at replies place reply (omega (arith, inside)) c.index-replies-place.is in
    let long : length es ≡ n = length-map replies entry_of in
    let far = at.far in
    let next : n - (back + 1) ≡ place = omega arith in
    let here : n - back ≡ place + 1 = omega (arith, inside) in
    let split = at.whole ∙ sym (append_assoc at.front (entry ∷ []) at.rest) in
    let wide : length (at.front ++ entry ∷ []) ≡ place + 1 = length-append at.front (entry ∷ []) ∙ ap (λ (k : ℕ). k + 1) far in
    let took : take (n - back) es ≡ at.front ++ entry ∷ [] = ap (λ (k : ℕ). take k es) here ∙ ap (take (place + 1)) split ∙ take_at (at.front ++ entry ∷ []) at.rest (place + 1) wide in
    let left : drop (n - back) es ≡ at.rest = ap (λ (k : ℕ). drop k es) here ∙ ap (drop (place + 1)) split ∙ drop_at (at.front ++ entry ∷ []) at.rest (place + 1) wide in
    let old : Known es (at.front ++ entry ∷ []) at.rest (ended_of c.loop-back.ended) =
    subst (λ (xs : List Entry). Known es (at.front ++ entry ∷ []) xs (ended_of c.loop-back.ended)) left (subst (λ (xs : List Entry). Known es xs (drop (n - back) es) (ended_of c.loop-back.ended)) took c.loop-back.invariant.known) in
    let known : Known es at.front (entry ∷ at.rest) (ended_of c.enter.new.self) = λ k.
    ap (λ (o : Option ℕ). unwrap_or o (length es)) (c.in_ok-enter.ensures (Session k)) ∙ known-next es at.front entry at.rest place far (ended_of c.loop-back.ended) old k in
    let front : take (n - (back + 1)) es ≡ at.front = ap (λ (k : ℕ). take k es) next ∙ ap (take place) at.whole ∙ take_at at.front (entry ∷ at.rest) place far in
    let behind : drop (n - (back + 1)) es ≡ entry ∷ at.rest = ap (λ (k : ℕ). drop k es) next ∙ ap (drop place) at.whole ∙ drop_at at.front (entry ∷ at.rest) place far in
    record {
      known = subst (λ (xs : List Entry). Known es xs (drop (n - (back + 1)) es) (ended_of c.enter.new.self)) (sym front)
          (subst (λ (xs : List Entry). Known es at.front xs (ended_of c.enter.new.self)) (sym behind) known);
      ends = subst (AreEnds es (back + 1)) (sym c.in_ok-push.ensures.items)
          (ends-next es back c.loop-back.backs.items c.unwrap_or.result c.loop-back.invariant.ends (λ f e r whole session low.
          let w = ap length whole in
          let m = length-append f (e ∷ r) in
          let place_is : length f ≡ place = omega (arith, w, m, low, long, inside) in
          let same : length at.front ≡ length f = far ∙ sym place_is in
          let one : entry ≡ e = one-cut es at.front entry at.rest f e r at.whole whole same in
          let f_is : at.front ≡ f = sym (take_at at.front (entry ∷ at.rest) place far) ∙ ap (take place) (sym at.whole ∙ whole) ∙ take_at f (e ∷ r) place place_is in
          let r_is : entry ∷ at.rest ≡ e ∷ r = sym (drop_at at.front (entry ∷ at.rest) place far) ∙ ap (drop place) (sym at.whole ∙ whole) ∙ drop_at f (e ∷ r) place place_is in
          let there : Known es f (e ∷ r) (ended_of c.enter.new.self) =
          subst (λ (xs : List Entry). Known es xs (e ∷ r) (ended_of c.enter.new.self)) f_is (subst (λ (xs : List Entry). Known es at.front xs (ended_of c.enter.new.self)) r_is known) in
          c.unwrap_or.ensures
          ∙ ap (λ (o : Option ℕ). unwrap_or o n) (c.next_of.ensures ∙ ap (λ (x : Entry). ended_of c.enter.new.self x.reply.who) one)
          ∙ ap (unwrap_or (ended_of c.enter.new.self e.reply.who)) (sym long)
          ∙ own-end es f e r (ended_of c.enter.new.self) session there));
    }
