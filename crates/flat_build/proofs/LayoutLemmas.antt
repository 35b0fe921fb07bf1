-- How long the pieces of a layout are, and what writing over zeros gives.
use Rattle.std.proofs.Common.{◌≡◌, ℕ, ◌+◌, ◌-◌, ◌*◌, ◌≤◌, List, [], ◌∷◌, ◌++◌, length, take, drop, replicate, refl, sym, ap, ◌∙◌, arith, append_assoc, append-nil, length-append}
use Rattle.std.proofs.lemmas.List.{length-replicate, replicate-append-replicate, take_at, drop_at, take_all}
use Rattle.std.specs.List.{flat_map}
use Rattle.byteorder.specs.Endian.{little_bytes}
use Rattle.flat_build.specs.Layout.{with_piece, overwritten}

-- a piece ends where its place and its length say
pub length-with_piece : (xs : List ℕ) (place : ℕ) (piece : List ℕ) → length xs ≤ place → length (with_piece xs place piece) ≡ place + length piece
length-with_piece xs place piece h = simp (length-append, length-replicate) (omega arith)

-- a piece right after the bytes follows no gap
pub with_piece-seam : (xs : List ℕ) (place : ℕ) (piece : List ℕ) → length xs ≡ place → with_piece xs place piece ≡ xs ++ piece
with_piece-seam xs place piece h =
    let none : place - length xs ≡ 0 = omega arith in
    ap (λ (n : ℕ). xs ++ replicate n 0 ++ piece) none ∙ ap (λ (ys : List ℕ). ys ++ piece) (append-nil xs)

-- words of two bytes each
pub length-words : (words : List ℕ) → length (flat_map (little_bytes 2) words) ≡ 2 * length words
length-words [] = refl
length-words (word ∷ words) = let rest = length-words words in omega arith

-- a piece written over zeros after the bytes leaves zeros up to it and after it
pub overwritten-zeros :
    (xs : List ℕ) (k place : ℕ) (piece : List ℕ) → length xs ≤ place → place + length piece ≤ length xs + k
    → overwritten (xs ++ replicate k 0) place piece ≡ with_piece xs place piece ++ replicate (length xs + k - (place + length piece)) 0
overwritten-zeros xs k place piece low high =
    let gap : ℕ = place - length xs in
    let rest : ℕ = length xs + k - (place + length piece) in
    let front : List ℕ = xs ++ replicate gap 0 in
    let under : List ℕ = replicate (length piece) 0 in
    let parts : k ≡ gap + (length piece + rest) = omega arith in
    let zeros : replicate k 0 ≡ replicate gap 0 ++ (under ++ replicate rest 0) =
    ap (λ (n : ℕ). replicate n 0) parts
    ∙ sym (replicate-append-replicate gap (length piece + rest) 0)
    ∙ ap (λ (ys : List ℕ). replicate gap 0 ++ ys) (sym (replicate-append-replicate (length piece) rest 0)) in
    let split : xs ++ replicate k 0 ≡ front ++ (under ++ replicate rest 0) =
    ap (λ (ys : List ℕ). xs ++ ys) zeros ∙ sym (append_assoc xs (replicate gap 0) (under ++ replicate rest 0)) in
    let front_len : length front ≡ place = simp (length-append, length-replicate) (omega arith) in
    let under_len : length (front ++ under) ≡ place + length piece = simp (length-append, length-replicate) (omega arith) in
    let before : take place (xs ++ replicate k 0) ≡ front =
    ap (take place) split ∙ take_at front (under ++ replicate rest 0) place front_len in
    let after : drop (place + length piece) (xs ++ replicate k 0) ≡ replicate rest 0 =
    ap (drop (place + length piece)) (split ∙ sym (append_assoc front under (replicate rest 0)))
    ∙ drop_at (front ++ under) (replicate rest 0) (place + length piece) under_len in
    rw (before, after) refl

-- the same where the zeros come from growing the bytes to a length
pub overwritten-grown :
    (xs : List ℕ) (n place : ℕ) (piece : List ℕ) → length xs ≤ place → place + length piece ≤ n
    → overwritten (take n xs ++ replicate (n - length xs) 0) place piece ≡ with_piece xs place piece ++ replicate (n - (place + length piece)) 0
overwritten-grown xs n place piece low high =
    let whole : take n xs ≡ xs = take_all n xs (omega arith) in
    let left : length xs + (n - length xs) - (place + length piece) ≡ n - (place + length piece) = omega arith in
    ap (λ (ys : List ℕ). overwritten (ys ++ replicate (n - length xs) 0) place piece) whole
    ∙ overwritten-zeros xs (n - length xs) place piece low (omega arith)
    ∙ ap (λ (m : ℕ). with_piece xs place piece ++ replicate m 0) left

-- a list written through a borrow of the whole vector is what the vector then holds
pub written_back : (new old : List ℕ) (n : ℕ) → length new ≡ n → take n (new ++ drop (length new) old) ≡ new
written_back new old n h = take_at new (drop (length new) old) n h
