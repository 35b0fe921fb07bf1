-- The lines of a transaction, by its draws.
use Rattle.std.proofs.Common.{◌≡◌, ℕ, ◌+◌, ◌*◌, ◌-◌, List, [], ◌∷◌, ◌++◌, sym, ap, ap₂, ◌∙◌, append_assoc, false}
use Rattle.cell_model.specs.declared.cell.Cell.{Cell}
use Rattle.workload_spec.specs.declared.command.Command.TheVariants as command
use Rattle.workload_spec.specs.declared.script.Line.{Line}
use Rattle.bench_spec.specs.Draws.{draw}
use Rattle.bench_spec.specs.Generated.{draws_of_each, draw_in, key_of, line, row_of, transaction, updated_key}

-- the draw of this number of the transaction, where so many were made before it
pub drawn_in : (seed made round session number at value : ℕ) → made ≡ draws_of_each * (key_of round session - 1) → made + number ≡ at
    → value ≡ draw seed at → value ≡ draw_in seed round session number
drawn_in seed made round session number at value begins is drawn = drawn ∙ ap (draw seed) (sym is ∙ ap (λ (m : ℕ). m + number) begins)

-- the row of a key and two draws
row_same : (row : List Cell) (k k' n n' t t' : ℕ) → row ≡ row_of k n t → k ≡ k' → n ≡ n' → t ≡ t' → row ≡ row_of k' n' t'
row_same row k k' n n' t t' is same_key same_number same_text =
    is ∙ ap (λ (x : ℕ). row_of x n t) same_key ∙ ap (λ (x : ℕ). row_of k' x t) same_number ∙ ap (λ (x : ℕ). row_of k' n' x) same_text

-- Four elements that are added one by one stand behind the old ones.
four : {X : Type 0} (old : List X) (a b c d : X) (one two three all : List X) → one ≡ old ++ a ∷ [] → two ≡ one ++ b ∷ [] → three ≡ two ++ c ∷ [] → all ≡ three ++ d ∷ []
    → all ≡ old ++ a ∷ b ∷ c ∷ d ∷ []
four old a b c d one two three all e f g h =
    h ∙ ap (λ l. l ++ d ∷ []) (g ∙ ap (λ l. l ++ c ∷ []) (f ∙ ap (λ l. l ++ b ∷ []) e))
    ∙ append_assoc ((old ++ a ∷ []) ++ b ∷ []) (c ∷ []) (d ∷ []) ∙ append_assoc (old ++ a ∷ []) (b ∷ []) (c ∷ d ∷ []) ∙ append_assoc old (a ∷ []) (b ∷ c ∷ d ∷ [])

-- the four lines that were made of the draws are the transaction's
pub transaction_is : (seed round session k n t j k2 n2 t2 : ℕ) (first second : List Cell) (old one two three all : List Line)
    → k ≡ key_of round session → n ≡ draw_in seed round session 1 → t ≡ draw_in seed round session 2 → first ≡ row_of k n t
    → k2 ≡ updated_key round session j → j ≡ draw_in seed round session 3 → n2 ≡ draw_in seed round session 4 → t2 ≡ draw_in seed round session 5 → second ≡ row_of k2 n2 t2
    → one ≡ old ++ line session (command.Begin false) ∷ [] → two ≡ one ++ line session (command.Insert 0 first) ∷ []
    → three ≡ two ++ line session (command.Update 0 second) ∷ [] → all ≡ three ++ line session command.Commit ∷ []
    → all ≡ old ++ transaction seed round session
transaction_is seed round session k n t j k2 n2 t2 first second old one two three all key number text row key2 old_draw number2 text2 row2 e f g h =
    four old _ _ _ _ one two three all e f g h
    ∙ ap₂ (λ (a b : List Cell). old ++ line session (command.Begin false) ∷ line session (command.Insert 0 a) ∷ line session (command.Update 0 b) ∷ line session command.Commit ∷ [])
    (row_same first k _ n _ t _ row key number text)
    (row_same second k2 _ n2 _ t2 _ row2 (key2 ∙ ap (updated_key round session) old_draw) number2 text2)
