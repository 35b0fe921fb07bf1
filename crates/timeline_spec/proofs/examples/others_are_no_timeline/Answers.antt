use Rattle.timeline_spec.proofs.examples.others_are_no_timeline.Goals as goal

pub returns : goal.returns
returns c = (
  λ h. absurd (let never : ⊥ = cc (h.0.0.not_before) in never),
  λ h. absurd (let never : ⊥ = cc (h.1.0.0.not_before) in never),
)
