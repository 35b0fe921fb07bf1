use Rattle.std.proofs.Common.{◌≡◌, ◌∙◌, [], ◌∷◌, ◌++◌, ap}
use Rattle.block_body.specs.Bodies.{SlotLists, slots_of}
use Rattle.block_body.specs.Chains.{is_listed}
use Rattle.block_body.proofs.SessionLists.{push_listed, push_more}
use Rattle.block_body.proofs.lists.SessionLists.begin.Goals as goal

pub returns-clause-added : goal.returns-clause-added
returns-clause-added c =
    let is : c.push-2.new.self.items ≡ c.args.self.now ++ c.push.new.self ∷ [] = c.in_ok-push-2.ensures.items ∙ ap (λ (l : SlotLists). l ++ c.push.new.self ∷ []) c.self.view_is in
    ap (λ (l : SlotLists). is_listed (slots_of l c.args.session) c.args.slot) is
    ∙ push_listed c.args.session c.args.slot c.args.self.now c.push.new.self c.requires c.push.ensures.session c.in_ok-push.ensures.added

pub returns-clause-more : goal.returns-clause-more
returns-clause-more c = λ other number listed.
    let is : c.push-2.new.self.items ≡ c.args.self.now ++ c.push.new.self ∷ [] = c.in_ok-push-2.ensures.items ∙ ap (λ (l : SlotLists). l ++ c.push.new.self ∷ []) c.self.view_is in
    ap (λ (l : SlotLists). is_listed (slots_of l other) number) is ∙ push_more c.args.self.now c.push.new.self other number listed
