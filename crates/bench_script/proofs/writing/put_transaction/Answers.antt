use Rattle.std.proofs.Common.{ℕ, ◌+◌, arith, ap, ◌∙◌, refl}
use Rattle.bench_spec.specs.Draws.{draw}
use Rattle.bench_script.proofs.Transactions.{drawn_in, transaction_is}
use Rattle.bench_script.proofs.writing.put_transaction.Goals as goal

pub returns-clause-lines : goal.returns-clause-lines
returns-clause-lines c =
    let seed = c.args.draws.now.seed in
    let made = c.args.draws.now.made in
    let r = c.args.round in
    let q = c.args.session in
    let s2 = c.draw-number.ensures.seed in
    let s3 = c.draw-text.ensures.seed ∙ s2 in
    let s4 = c.draw.ensures.seed ∙ s3 in
    let s5 = c.draw-number-2.ensures.seed ∙ s4 in
    let m2 = c.draw-number.ensures.made in
    let m3 = c.draw-text.ensures.made in
    let m4 = c.draw.ensures.made in
    let m5 = c.draw-number-2.ensures.made in
    transaction_is seed r q _ c.draw-number.result c.draw-text.result c.draw.result _ c.draw-number-2.result c.draw-text-2.result _ _
    c.args.out.now.items c.put.new.out.items c.put-2.new.out.items c.put-3.new.out.items c.put-4.new.out.items
    refl
    (drawn_in seed made r q 1 _ _ c.requires.made refl c.draw-number.ensures.drawn)
    (drawn_in seed made r q 2 _ _ c.requires.made (omega (arith, m2)) (c.draw-text.ensures.drawn ∙ ap (λ (s : ℕ). draw s (c.draw-number.new.self.made + 1)) s2))
    c.in_ok-inserted.ensures
    refl
    (drawn_in seed made r q 3 _ _ c.requires.made (omega (arith, m2, m3)) (c.draw.ensures.drawn ∙ ap (λ (s : ℕ). draw s (c.draw-text.new.self.made + 1)) s3))
    (drawn_in seed made r q 4 _ _ c.requires.made (omega (arith, m2, m3, m4)) (c.draw-number-2.ensures.drawn ∙ ap (λ (s : ℕ). draw s (c.draw.new.self.made + 1)) s4))
    (drawn_in seed made r q 5 _ _ c.requires.made (omega (arith, m2, m3, m4, m5)) (c.draw-text-2.ensures.drawn ∙ ap (λ (s : ℕ). draw s (c.draw-number-2.new.self.made + 1)) s5))
    c.in_ok-updated.ensures
    c.in_ok-put.ensures c.in_ok-put-2.ensures c.in_ok-put-3.ensures c.in_ok-put-4.ensures
