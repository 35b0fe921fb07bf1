-- What crates above cite of entries: a value stays where bytes are added to its buffer.
use Rattle.std.proofs.Common.{◌≡◌, ℕ, ◌+◌, ◌≤◌, List, ◌++◌, length, take, drop, ap, ◌∙◌, arith}
use Rattle.std.proofs.lemmas.List.{drop-append-le, take-append-le, length-append, length-drop}
use Rattle.varlen_entry.specs.declared.Entry.{Entry}
use Rattle.varlen_entry.specs.declared.Entry.TheVariants.{Inline, Owned, Gathered}
use Rattle.varlen_entry.specs.Entry.{HasValue}

-- what stands at a place stands there where bytes are added
pub take-drop-append : (n place : ℕ) (buffer more : List ℕ) → place + n ≤ length buffer
    → take n (drop place (buffer ++ more)) ≡ take n (drop place buffer)
take-drop-append n place buffer more within =
    let room : n ≤ length (drop place buffer) = rw length-drop (omega arith) in
    ap (take n) (drop-append-le place buffer more (omega arith)) ∙ take-append-le n (drop place buffer) more room

-- an entry has its value still with more bytes behind those that are owned
pub HasValue-owned_longer : (entry : Entry) (owned gathered value more : List ℕ) → HasValue entry owned gathered value
    → HasValue entry (owned ++ more) gathered value
HasValue-owned_longer (Inline short) owned gathered value more h = record { within = h.within; is = h.is }
HasValue-owned_longer (Owned span) owned gathered value more h = record {
  within = let within = h.within in rw length-append (omega arith);
  is = take-drop-append span.len span.place owned more h.within ∙ h.is;
}
HasValue-owned_longer (Gathered span) owned gathered value more h = record { within = h.within; is = h.is }
