-- Worked examples of the words of parts, as facts.
use Rattle.std.specs.Prelude.{◌≡◌, ℕ, [], ◌∷◌, Option, None, Some, codes, map, option_and_then, slice_get}
use Rattle.block_spec.specs.Examples.{rounds, row_of, two_rows}
use Rattle.core_laws.specs.Words.Words.{thawed_part, word_of}
use Rattle.event_spec.specs.declared.event.Event.TheVariants as event
use Rattle.event_spec.specs.Effects.{effect}
use Rattle.event_spec.specs.Examples.{shape, with_body}
use Rattle.event_spec.specs.Parts.{Parts}
use Rattle.hall_rule.specs.declared.head.Head.{Head}

abbrev pub word : ℕ → ℕ → Head
word state stamp = record { state = state; stamp = stamp }

-- the word of the part with a number, in the examples' shape of two tables: 18 to 21 are their
-- bodies
abbrev pub word_in : ℕ → Parts → Option Head
word_in number parts = option_and_then word_of (slice_get parts number)

-- A block's word is hot, 0, then cooling, 1, freezing with the next stamp, 2, frozen, 3, and hot
-- again with its stamp; its next seal has the stamp after that. Parts that are no body have none.
abbrev pub WordsFollowBodies : Type 0
WordsFollowBodies =
    let hot = with_body 1 (rounds 1 two_rows) in
    let cooling = effect shape hot (event.Observe 0 1) in
    let sealed = effect shape cooling (event.Seal 0 1) in
    let imaged = effect shape sealed (event.Image 0 1 (Some (row_of 1 (codes "a") ∷ row_of 2 (codes "b") ∷ []))) in
    let thawed = effect shape imaged (event.Thaw 0 1) in
    let again = effect shape (effect shape thawed (event.Observe 0 1)) (event.Seal 0 1) in
    (map (word_in 19) (hot ∷ cooling ∷ sealed ∷ imaged ∷ thawed ∷ again ∷ [])
    ≡ map Some (word 0 0 ∷ word 1 0 ∷ word 2 1 ∷ word 3 1 ∷ word 0 1 ∷ word 2 2 ∷ []))
    × (map (λ number. word_in number imaged) (0 ∷ 2 ∷ 18 ∷ 22 ∷ [])
    ≡ None ∷ None ∷ Some (word 0 0) ∷ None ∷ [])

-- A thaw thaws its block's body, and other events thaw none.
abbrev pub ThawsAreOfOneBody : Type 0
ThawsAreOfOneBody =
    map (thawed_part shape)
    (event.Thaw 0 1 ∷ event.Thaw 1 0 ∷ event.Image 0 1 None ∷ event.Oldest ∷ [])
    ≡ Some 19 ∷ Some 20 ∷ None ∷ None ∷ []
