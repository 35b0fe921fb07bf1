use Rattle.std.proofs.Common.{◌∙◌, sym}
use Rattle.block_body.proofs.Lookups.{put_chains}
use Rattle.block_body.proofs.Pruned.{few_left}
use Rattle.block_body.proofs.chains.roll_back_slot.Goals as goal

pub returns-clause-chains : goal.returns-clause-chains
returns-clause-chains c =
    let left = c.lay_own_back-any.new.chain in
    put_chains c.args.chains.now.entries c.put.new.self.entries c.args.slot left c.requires.chains c.put.ensures.here (λ q other. c.put.ensures.others q other ∙ c.take.ensures.others q other)
    (few_left _ (c.in-Some.chain).entries left.entries (c.requires.chains.each c.args.slot c.in-Some.chain (sym c.take.ensures.chain ∙ c.in-Some.is)).few c.lay_own_back-any.ensures.chain)
    c.lay_own_back-any.ensures.lawful
