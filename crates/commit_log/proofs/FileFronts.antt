-- How a file is read from its front on.
use Rattle.std.proofs.Common.{◌≡◌, ℕ, ◌+◌, ◌≤◌, List, ◌++◌, length, take, drop, Option, Some, Ok}
use Rattle.std.proofs.Common.{Result, sym, ◌∙◌, ap, subst, take-add, length-append}
use Rattle.std.proofs.lemmas.List.{take_all}
use Rattle.disk_ports.specs.FileSteps.{Reads, ReadsFrom}

-- what a read of a file that is told gives
pub reads_told : {E : Type 0} (result : Result ℕ E) (told : Option (List ℕ)) (file buf : List ℕ)
    (at count : ℕ)
    → result ≡ Ok count → told ≡ Some file → Reads told result at buf → ReadsFrom file at count buf
reads_told {E = E} result told file buf at count done is reads =
    subst (λ t. Reads {E = E} t (Ok count) at buf) is (subst (λ r. Reads told r at buf) done reads)

-- one piece more of the front
pub front_more : (file bytes piece new : List ℕ) (count : ℕ) → bytes ≡ take (length bytes) file
    → piece ≡ take count (drop (length bytes) file) → length piece ≡ count → new ≡ bytes ++ piece
    → new ≡ take (length new) file
front_more file bytes piece new count front is size more =
    more
    ∙ ap (λ (l : List ℕ). l ++ piece) front
    ∙ ap (λ (l : List ℕ). take (length bytes) file ++ l) is
    ∙ sym (take-add (length bytes) count file)
    ∙ ap (λ n. take n file)
    (sym (ap length more ∙ length-append bytes piece ∙ ap (λ n. length bytes + n) size))

-- a front that is as long as the file
pub front_whole : (file bytes : List ℕ) → bytes ≡ take (length bytes) file
    → length file ≤ length bytes
    → bytes ≡ file
front_whole file bytes front long = front ∙ take_all (length bytes) file long
