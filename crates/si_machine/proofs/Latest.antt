-- The row of a place after commits: what the last of them left that wrote it.
use Rattle.std.proofs.Common.{◌≡◌, ℕ, ◌+◌, ◌-◌, ◌<◌, ◌≤◌, zero, suc, nat_le, Bool, true, false, cond, List, [], ◌∷◌, length, take, drop, get_or, Option, None, Some, refl, sym, ap, ◌∙◌, arith}
use Rattle.std.specs.Prelude.{fold, unwrap_or, is_some, if◌then◌else◌}
use Rattle.std.specs.Option.{option_or}
use Rattle.std.specs.List.{filter, last_or}
use Rattle.std.proofs.lemmas.Bool.Decides.{nat_tests}
use Rattle.cell_model.specs.declared.cell.Cell.{Cell}
use Rattle.isolation_spec.specs.Contents.{at_place, State, WriteSet, History, laid_over}
use Rattle.isolation_spec.specs.declared.place.Place.{Place}
use Rattle.isolation_spec.specs.Machine.{writes_place}
use Rattle.isolation_laws.proofs.Later.{last_writer, nothing-more, over}
use Rattle.timeline_laws.proofs.Writers.{last-some}
use Rattle.si_machine.specs.Kept.{Rises, AllRise, numbers_from}
use Rattle.si_machine.proofs.Rising.{rises-laid, at-laid}

-- what the write set of this number left at the place, where the first set has number `at`
abbrev pub left_by : Place → ℕ → History → Option (List Cell) → Option ℕ → Option (List Cell)
left_by q at history before None = before
left_by q at history before (Some number) = unwrap_or (at_place (get_or history (number - at) []) q) None

-- What a commit leaves at a place is what it wrote there, or else what was there.
here : (q : Place) (at : ℕ) (writes : WriteSet) (later : History) (before : Option (List Cell)) (change : Option (Option (List Cell))) → at_place writes q ≡ change
    → unwrap_or change before ≡ left_by q at (writes ∷ later) before (cond (is_some change) (Some at) None)
here q at writes later before None is = refl
here q at writes later before (Some row) is =
    let first : at - at ≡ 0 = omega arith in
    sym (ap (λ (i : ℕ). unwrap_or (at_place (get_or (writes ∷ later) i []) q) None) first ∙ ap (λ (o : Option (Option (List Cell))). unwrap_or o None) is)

-- The commit of a number is one place less behind without the first.
one-behind : (at number : ℕ) (writes : WriteSet) (later : History) → at + 1 ≤ number → get_or (writes ∷ later) (number - at) [] ≡ get_or later (number - (at + 1)) []
one-behind at number writes later above =
    let e : number - at ≡ suc (number - (at + 1)) = omega arith in ap (λ (i : ℕ). get_or (writes ∷ later) i []) e

-- With one commit more in front, what a place has is still what its last writer left.
latest-step : (q : Place) (at : ℕ) (writes : WriteSet) (later : History) (acc : State) (o : Option ℕ) → last_writer q (at + 1) later ≡ o
    → at_place (fold laid_over (laid_over acc writes) later) q ≡ left_by q (at + 1) later (unwrap_or (at_place writes q) (at_place acc q)) o
    → at_place (fold laid_over (laid_over acc writes) later) q ≡ left_by q at (writes ∷ later) (at_place acc q) (option_or o (cond (writes_place q writes) (Some at) None))
latest-step q at writes later acc None is rest = rest ∙ here q at writes later (at_place acc q) (at_place writes q) refl
latest-step q at writes later acc (Some number) is rest =
    let found = last-some (writes_place q) refl (at + 1) later number is in
    rest ∙ sym (ap (λ (w : WriteSet). unwrap_or (at_place w q) None) (one-behind at number writes later (omega (arith, found.number_is))))

-- commits leave at a place what the last of them that wrote it did, or else what was there
pub at-fold : (q : Place) (at : ℕ) (history : History) (acc : State) → Rises acc → AllRise history
    → at_place (fold laid_over acc history) q ≡ left_by q at history (at_place acc q) (last_writer q at history)
at-fold q at [] acc h k = refl
at-fold q at (writes ∷ later) acc h k =
    latest-step q at writes later acc (last_writer q (at + 1) later) refl
    (at-fold q (at + 1) later (laid_over acc writes) (rises-laid acc writes h) k.1
    ∙ ap (λ (before : Option (List Cell)). left_by q (at + 1) later before (last_writer q (at + 1) later)) (at-laid acc writes q h k.0))

-- ---- the last of the numbers

-- With a number in front or not, the last of the numbers is still that of the last writer.
last-step : (q : Place) (at : ℕ) (later : History) (o : Option ℕ) (b : Bool) → ((o : Option ℕ) → last_or o (numbers_from q (at + 1) later) ≡ option_or (last_writer q (at + 1) later) o)
    → last_or o (if b then at ∷ numbers_from q (at + 1) later else numbers_from q (at + 1) later) ≡ option_or (option_or (last_writer q (at + 1) later) (cond b (Some at) None)) o
last-step q at later o true rest = rest (Some at) ∙ sym (over (last_writer q (at + 1) later) at o)
last-step q at later o false rest = rest o ∙ sym (ap (λ (l : Option ℕ). option_or l o) (nothing-more (last_writer q (at + 1) later)))

-- The last of a place's numbers, or else one before them, is that of the last writer.
last-onto : (q : Place) (at : ℕ) (history : History) (o : Option ℕ) → last_or o (numbers_from q at history) ≡ option_or (last_writer q at history) o
last-onto q at [] o = refl
last-onto q at (writes ∷ later) o = last-step q at later o (writes_place q writes) (last-onto q (at + 1) later)

-- the last of the numbers that are kept of a place is that of the commit that wrote it last
pub last-numbers : (q : Place) (at : ℕ) (history : History) → last_or None (numbers_from q at history) ≡ last_writer q at history
last-numbers q at history = last-onto q at history None ∙ nothing-more (last_writer q at history)

-- ---- the numbers up to a bound

module _ (bound : ℕ) where
  -- The number is not above the bound.
  abbrev is_up_to : ℕ → Bool
  is_up_to number = nat_le number bound

  -- With a number above the bound in front or not, no number is up to the bound.
  none-step : (at : ℕ) (later : List ℕ) (b : Bool) → bound < at → filter is_up_to later ≡ [] → filter is_up_to (if b then at ∷ later else later) ≡ []
  none-step at later true above rest = let past : nat_le at bound ≡ false = grind (arith, nat_tests, above) in rw past rest
  none-step at later false above rest = rest

  -- Where the first number is above the bound, none of a place's numbers is up to it.
  none-up-to : (q : Place) (at : ℕ) (history : History) → bound < at → filter is_up_to (numbers_from q at history) ≡ []
  none-up-to q at [] above = refl
  none-up-to q at (writes ∷ later) above =
      none-step at (numbers_from q (at + 1) later) (writes_place q writes) above (none-up-to q (at + 1) later (omega (arith, above)))

  -- A number up to the bound, in front or not, is kept in front of those that are.
  up-to-step : (at left : ℕ) (all some : List ℕ) (b : Bool) → bound + 1 ≡ at + suc left → filter is_up_to all ≡ some
      → filter is_up_to (if b then at ∷ all else all) ≡ (if b then at ∷ some else some)
  up-to-step at left all some true is rest =
      let within : nat_le at bound ≡ true = grind (arith, nat_tests, is) in rw within (ap (λ (ns : List ℕ). at ∷ ns) rest)
  up-to-step at left all some false is rest = rest

  -- the numbers up to a bound are those of the first commits
  pub numbers-up-to : (q : Place) (at : ℕ) (left : ℕ) (history : History) → bound + 1 ≡ at + left
      → filter is_up_to (numbers_from q at history) ≡ numbers_from q at (take left history)
  numbers-up-to q at zero history is = none-up-to q at history (omega (arith, is))
  numbers-up-to q at (suc left) [] is = refl
  numbers-up-to q at (suc left) (writes ∷ later) is =
      up-to-step at left (numbers_from q (at + 1) later) (numbers_from q (at + 1) (take left later)) (writes_place q writes) is
      (numbers-up-to q (at + 1) left later (omega (arith, is)))

-- ---- the last of the numbers above a bound

-- a number, if it is there and not below a bound
abbrev pub from_on : ℕ → Option ℕ → Option ℕ
from_on low None = None
from_on low (Some number) = if nat_le low number then Some number else None

-- The number of a place's last writer is not below the first number.
all-from : (q : Place) (at : ℕ) (history : History) (o : Option ℕ) → last_writer q at history ≡ o → o ≡ from_on at o
all-from q at history None is = refl
all-from q at history (Some number) is =
    let found = last-some (writes_place q) refl at history number is in
    let above : at ≤ number = omega (arith, found.number_is) in
    let test : nat_le at number ≡ true = grind (arith, nat_tests, above) in
    rw test refl

-- A number below the bound in front is none from the bound on.
from-step : (at low : ℕ) (o : Option ℕ) (b : Bool) → at < low → from_on low o ≡ from_on low (option_or o (cond b (Some at) None))
from-step at low (Some number) b less = refl
from-step at low None true less = let past : nat_le low at ≡ false = grind (arith, nat_tests, less) in rw past refl
from-step at low None false less = refl

-- the last commit behind some that wrote a place is the last of all, if it is behind them
pub last-behind : (q : Place) (at n : ℕ) (history : History) → last_writer q (at + n) (drop n history) ≡ from_on (at + n) (last_writer q at history)
last-behind q at zero history =
    let same : at + zero ≡ at = omega arith in
    rw same (all-from q at history (last_writer q at history) refl)
last-behind q at (suc n) [] = refl
last-behind q at (suc n) (writes ∷ later) =
    let same : at + suc n ≡ (at + 1) + n = omega arith in
    let less : at < (at + 1) + n = omega arith in
    rw same (last-behind q (at + 1) n later ∙ from-step at ((at + 1) + n) (last_writer q (at + 1) later) (writes_place q writes) less)

-- ---- the numbers rise

-- With a number in front or not, none of the numbers is below it.
low-step : (at : ℕ) (later : List ℕ) (b : Bool) (j d : ℕ) → ((j : ℕ) → j < length later → at + 1 ≤ get_or later j d)
    → j < length (if b then at ∷ later else later) → at ≤ get_or (if b then at ∷ later else later) j d
low-step at later true zero d rest h = omega arith
low-step at later true (suc j) d rest h = let within : j < length later = omega (arith, h) in omega (arith, rest j within)
low-step at later false j d rest h = omega (arith, rest j h)

-- None of a place's numbers is below the first number.
numbers-low : (q : Place) (at : ℕ) (history : History) (j d : ℕ) → j < length (numbers_from q at history) → at ≤ get_or (numbers_from q at history) j d
numbers-low q at [] j d within = absurd (omega (arith, within))
numbers-low q at (writes ∷ later) j d within =
    low-step at (numbers_from q (at + 1) later) (writes_place q writes) j d (λ j h. numbers-low q (at + 1) later j d h) within

-- With a number in front or not, the numbers do not fall.
rise-step : (at : ℕ) (later : List ℕ) (b : Bool) (i j d : ℕ) → ((j : ℕ) → j < length later → at + 1 ≤ get_or later j d)
    → ((i j : ℕ) → i ≤ j → j < length later → get_or later i d ≤ get_or later j d)
    → i ≤ j → j < length (if b then at ∷ later else later) → get_or (if b then at ∷ later else later) i d ≤ get_or (if b then at ∷ later else later) j d
rise-step at later true zero zero d low rest order h = omega arith
rise-step at later true zero (suc j) d low rest order h = let within : j < length later = omega (arith, h) in omega (arith, low j within)
rise-step at later true (suc i) zero d low rest order h = absurd (omega (arith, order))
rise-step at later true (suc i) (suc j) d low rest order h =
    let within : j < length later = omega (arith, h) in
    let sooner : i ≤ j = omega (arith, order) in
    rest i j sooner within
rise-step at later false i j d low rest order h = rest i j order h

-- the numbers that are kept of a place do not fall
pub numbers-rise : (q : Place) (at : ℕ) (history : History) (i j d : ℕ) → i ≤ j → j < length (numbers_from q at history)
    → get_or (numbers_from q at history) i d ≤ get_or (numbers_from q at history) j d
numbers-rise q at [] i j d order within = absurd (omega (arith, within))
numbers-rise q at (writes ∷ later) i j d order within =
    rise-step at (numbers_from q (at + 1) later) (writes_place q writes) i j d (λ j h. numbers-low q (at + 1) later j d h)
    (λ i j o h. numbers-rise q (at + 1) later i j d o h) order within
