-- A workload and an output, parted by a line.
use Rattle.std.proofs.Common.{◌≡◌, ℕ, ◌+◌, ◌-◌, ◌<◌, Bool, true, false, List, [], ◌∷◌, ◌++◌, length, take, drop, suc, refl, sym, ap, ◌∙◌, arith, append_assoc, length-append, add-one}
use Rattle.std.specs.Prelude.{◌==◌, None, Some, bytes_eq}
use Rattle.std.specs.List.{list_any, join_with_byte, position_from}
use Rattle.std.proofs.lemmas.Iterator.Adapters.{position_from-zero}
use Rattle.std.proofs.lemmas.Bool.{or_parts}
use Rattle.workload_spec.specs.Words.{line_feed}
use Rattle.workload_spec.specs.Reading.{onto_first, parted, parts}
use Rattle.workload_spec.specs.Grammar.{parting, place_of_parting}
use Rattle.script_text.specs.Partings.{IsParted}
use Rattle.script_text.proofs.NextLines.{parts_some}
use Rattle.workload_laws.proofs.Lists.{none-behind}
use Rattle.workload_laws.proofs.Apart.{is_whole, line_first_part}
use Rattle.workload_laws.proofs.Parts.{parts_joined}

-- the lines before those that are left
pub record Passed (bytes rest : List ℕ) : Type 0 where
  pub front : List (List ℕ)
  pub before : List ℕ
  pub text : bytes ≡ before ++ rest
  pub lines : parts line_feed before ≡ front ++ [] ∷ []
  pub none : list_any (λ line. bytes_eq line parting) front ≡ false

-- at first no line has been passed
pub nothing_passed : (bytes : List ℕ) → Passed bytes bytes
nothing_passed bytes = record { front = []; before = []; text = refl; lines = refl; none = refl }

-- behind bytes that end with a line feed stand further parts
pub parts_front : (before rest : List ℕ) (front : List (List ℕ)) → parts line_feed before ≡ front ++ [] ∷ [] → parts line_feed (before ++ rest) ≡ front ++ parts line_feed rest
parts_front [] rest [] e = refl
parts_front [] rest (part ∷ front) e = absurd (let t : [] ≡ front ++ [] ∷ [] = cc in omega (arith, ap (length {A = List ℕ}) t, length-append front ([] ∷ [])))
parts_front (byte ∷ before) rest front e = by (byte == line_feed) (parts line_feed before) front (parts_some line_feed before) refl e (λ others f. parts_front before rest others f)
  where
    by : (is : Bool) (ps front : List (List ℕ)) → 0 < length ps → parts line_feed before ≡ ps → parted is byte ps ≡ front ++ [] ∷ []
        → ((others : List (List ℕ)) → parts line_feed before ≡ others ++ [] ∷ [] → parts line_feed (before ++ rest) ≡ others ++ parts line_feed rest) → parted is byte (parts line_feed (before ++ rest)) ≡ front ++ parts line_feed rest
    by true ps [] some same f later = absurd (let g : ps ≡ [] = cc in omega (arith, some, ap (length {A = List ℕ}) g))
    by true ps (part ∷ front) some same f later =
        let h : [] ≡ part = cc in
        let t : ps ≡ front ++ [] ∷ [] = cc in
        ap (λ (others : List (List ℕ)). [] ∷ others) (later front (same ∙ t)) ∙ ap (λ (p : List ℕ). p ∷ (front ++ parts line_feed rest)) h
    by false [] front some same f later = absurd (omega (arith, some))
    by false (p ∷ ps) [] some same f later = absurd cc
    by false (p ∷ ps) (part ∷ front) some same f later =
        let h : byte ∷ p ≡ part = cc in
        let t : ps ≡ front ++ [] ∷ [] = cc in
        ap (onto_first byte) (later (p ∷ front) (same ∙ ap (λ (others : List (List ℕ)). p ∷ others) t)) ∙ ap (λ (q : List ℕ). q ∷ (front ++ parts line_feed rest)) h

-- one line more is passed
pub line_passed : (bytes rest line behind : List ℕ) → Passed bytes rest → rest ≡ line ++ line_feed ∷ behind → is_whole line ≡ true → bytes_eq line parting ≡ false → Passed bytes behind
line_passed bytes rest line behind passed is whole other = record {
  front = passed.front ++ line ∷ [];
  before = passed.before ++ (line ++ line_feed ∷ []);
  text = passed.text ∙ ap (λ (r : List ℕ). passed.before ++ r) (is ∙ sym (append_assoc line (line_feed ∷ []) behind)) ∙ sym (append_assoc passed.before (line ++ line_feed ∷ []) behind);
  lines = parts_front passed.before (line ++ line_feed ∷ []) passed.front passed.lines ∙ ap (λ (ps : List (List ℕ)). passed.front ++ ps) (line_first_part line [] whole) ∙ sym (append_assoc passed.front (line ∷ []) ([] ∷ []));
  none = none-behind (λ (l : List ℕ). bytes_eq l parting) passed.front line passed.none other;
}

-- The first line that parts is found behind those that do not.
found_from : (front more : List (List ℕ)) (line : List ℕ) (i : ℕ) → list_any (λ line. bytes_eq line parting) front ≡ false → bytes_eq line parting ≡ true → position_from (λ line. bytes_eq line parting) i (front ++ line ∷ more) ≡ Some (i + length front)
found_from [] more line i none is = rw is (ap Some (omega arith))
found_from (first ∷ front) more line i none is =
    let n = or_parts (bytes_eq first parting) (list_any (λ l. bytes_eq l parting) front) none in
    let e : i + 1 + length front ≡ i + length (first ∷ front) = omega arith in
    rw (n.0) (found_from front more line (i + 1) n.1 is ∙ ap Some e)

-- Where no line parts, none is found.
absent_from : (lines : List (List ℕ)) (i : ℕ) → list_any (λ line. bytes_eq line parting) lines ≡ false → position_from (λ line. bytes_eq line parting) i lines ≡ None
absent_from [] i none = refl
absent_from (first ∷ lines) i none =
    let n = or_parts (bytes_eq first parting) (list_any (λ l. bytes_eq l parting) lines) none in
    rw (n.0) (absent_from lines (i + 1) n.1)

-- The first so many elements of a list are its front of that length.
take_front : (front : List (List ℕ)) (more : List (List ℕ)) → take (length front) (front ++ more) ≡ front
take_front [] more = refl
take_front (first ∷ front) more = ap (λ (others : List (List ℕ)). first ∷ others) (take_front front more)

-- Behind a front and one line are those that follow.
drop_front : (front : List (List ℕ)) (line : List ℕ) (more : List (List ℕ)) → drop (length front + 1) (front ++ line ∷ more) ≡ more
drop_front [] line more = refl
drop_front (first ∷ front) line more = let rest = rw add-one at (drop_front front line more) in rw add-one rest

-- Taken past a front and a line, a list gives both and the first of those behind.
take_past : (front more : List (List ℕ)) (line : List ℕ) (n : ℕ) → take (length front + suc n) (front ++ line ∷ more) ≡ front ++ line ∷ take n more
take_past [] more line n = let e : 0 + suc n ≡ suc n = omega arith in rw e refl
take_past (first ∷ front) more line n = let e : length (first ∷ front) + suc n ≡ suc (length front + suc n) = omega arith in rw e (ap (λ (others : List (List ℕ)). first ∷ others) (take_past front more line n))

-- the line that parts
pub parted_at : (bytes rest line behind : List ℕ) (passed : Passed bytes rest) → rest ≡ line ++ line_feed ∷ behind → is_whole line ≡ true → bytes_eq line parting ≡ true → IsParted (parts line_feed bytes) passed.before behind
parted_at bytes rest line behind passed is whole same =
    let more : List (List ℕ) = parts line_feed behind in
    let all : parts line_feed bytes ≡ passed.front ++ line ∷ more = ap (parts line_feed) passed.text ∙ parts_front passed.before rest passed.front passed.lines ∙ ap (λ (r : List ℕ). passed.front ++ parts line_feed r) is ∙ ap (λ (ps : List (List ℕ)). passed.front ++ ps) (line_first_part line behind whole) in
    let some = parts_some line_feed behind in
    let many : length (passed.front ++ line ∷ more) - 1 ≡ length passed.front + suc (length more - 1) = omega (arith, length-append passed.front (line ∷ more), some) in
    record {
      place = length passed.front;
      found = rw (all, many, take_past passed.front more line (length more - 1)) (position_from-zero (λ (l : List ℕ). bytes_eq l parting) (passed.front ++ line ∷ take (length more - 1) more) ∙ found_from passed.front (take (length more - 1) more) line 0 passed.none same ∙ ap Some (omega arith));
      before = passed.lines ∙ ap (λ (ls : List (List ℕ)). ls ++ [] ∷ []) (sym (ap (take (length passed.front)) all ∙ take_front passed.front (line ∷ more)));
      behind = sym (parts_joined line_feed behind) ∙ ap (join_with_byte line_feed) (sym (ap (drop (length passed.front + 1)) all ∙ drop_front passed.front line more));
    }

-- no line parts
pub none_parted : (bytes rest : List ℕ) → Passed bytes rest → parts line_feed rest ≡ rest ∷ [] → place_of_parting (parts line_feed bytes) ≡ None
none_parted bytes rest passed last =
    let all : parts line_feed bytes ≡ passed.front ++ rest ∷ [] = ap (parts line_feed) passed.text ∙ parts_front passed.before rest passed.front passed.lines ∙ ap (λ (ps : List (List ℕ)). passed.front ++ ps) last in
    let many : length (passed.front ++ rest ∷ []) - 1 ≡ length passed.front = omega (arith, length-append passed.front (rest ∷ [])) in
    rw (all, many, take_front passed.front (rest ∷ [])) (position_from-zero (λ (l : List ℕ). bytes_eq l parting) passed.front ∙ absent_from passed.front 0 passed.none)

-- the bytes before those that are left
pub before_is : (bytes rest : List ℕ) (passed : Passed bytes rest) → take (length bytes - length rest) bytes ≡ passed.before
before_is bytes rest passed =
    let many : length bytes - length rest ≡ length passed.before = omega (arith, ap length passed.text, length-append passed.before rest) in
    rw many (ap (take (length passed.before)) passed.text ∙ take_bytes passed.before rest)
  where
    take_bytes : (front more : List ℕ) → take (length front) (front ++ more) ≡ front
    take_bytes [] more = refl
    take_bytes (first ∷ front) more = ap (λ (others : List ℕ). first ∷ others) (take_bytes front more)
