-- A pass takes in another.
use Rattle.std.proofs.Common.{◌≡◌, ℕ, false, cond, ◌∷◌, sym, ◌∙◌}
use mathlib.Core.Option as maybe
use lib.ListN.{get_elem?}
use Rattle.atomic_table.specs.Table.{Joins}
use Rattle.atomic_table.proofs.Lists.{set_else}
use Rattle.hall_rule.specs.EventLog.{has}
use Rattle.hall_rule.specs.HallInvariant.{readers_of, stage}
use Rattle.hall_rule.specs.Rule.{Rule}
use Rattle.hall_rule.specs.Meaning.{Laws, Meaning}
use Rattle.hall_rule.specs.Views.{joined_by, spent_view}
use Rattle.hall_rule.specs.declared.view.View.{View}
use Rattle.hall_rule.proofs.PassWords.{join_words}
use Rattle.hall_rule.proofs.Joins.{join_kept}
use Rattle.hall_rule.proofs.Halves.{both, parts_of, words_of}

module _ {P E T F : Type 0} (M : Meaning P E T F) where
  -- A pass takes in another that holds no part, and the invariant is kept.
  pub joins : (laws : Laws M) (id : ℕ) (v : View E) (other : ℕ) (u : View E) → v.spent ≡ false → u.spent ≡ false → ((k : ℕ) → stage u k ≡ 0) → readers_of u ≡ 0 → Joins (Rule M) id v other u (joined_by id other v u) spent_view
  joins laws id v other u live alive empty none' s held at else there' =
      let there : get_elem? s.views other ≡ maybe.some u = sym (set_else s.views id other (joined_by id other v u) else) ∙ there' in (
        held.0,
        record { part = held.1.part; number = (λ i. cond (has i (other ∷ u.joined)) id (held.1.number i)); session = (λ q. cond (has q u.sessions) id (held.1.session q)) },
        both (join_kept M laws held.0 held.1 s (parts_of held.2) id v at live other u else there alive empty)
            (join_words M held.0 s (words_of held.2) id v at live other u else there none'),
      )
