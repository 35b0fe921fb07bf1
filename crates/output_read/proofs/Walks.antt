-- Ways of reading, one due after the other.
use Rattle.std.proofs.Common.{◌≡◌, ℕ, ◌+◌, ◌≤◌, Bool, true, false, cond, ◌&&◌, List, [], ◌∷◌, ◌++◌, drop, Option, None, Some, Ok, Err, refl, ap, ◌∙◌, arith, max}
use Rattle.std.specs.Prelude.{Result}
use Rattle.std.specs.List.{list_all}
use Rattle.std.proofs.lemmas.List.Sums.{sum_by_push}
use Rattle.cell_model.specs.declared.table.TableDecl.{TableDecl}
use Rattle.outcome_spec.specs.Entries.{Entry}
use Rattle.outcome_spec.specs.Forms.{Due, further, line_count, lines_begun, may_be_silent, next_line, reading, reply_at}

-- the replies that were read, or the line at which it fails
abbrev pub Reading : Type 0
Reading = Result (List Entry) ℕ

-- one due's way: its reply and what is read behind it, or the fault, or what is read without it
abbrev pub way : Bool → Option Entry → (Entry → Reading) → ℕ → Reading → Reading
way silent at next fail skip = elim silent as (λ b. Reading) [
  | true ↦ further (elim at as (λ o. Reading) [ Some entry ↦ next entry | None ↦ Err fail ]) skip
  | false ↦ elim at as (λ o. Reading) [ Some entry ↦ next entry | None ↦ Err fail ]
]

-- what may not be silent is read where its reply is there
pub way-taken : (at : Option Entry) (next : Entry → Reading) (fail : ℕ) (skip : Reading) (silent : Bool) (entry : Entry) → silent ≡ false → at ≡ Some entry → way silent at next fail skip ≡ next entry
way-taken at next fail skip silent entry s a =
    ap (λ (b : Bool). way b at next fail skip) s ∙ ap (λ (o : Option Entry). way false o next fail skip) a

-- what may not be silent fails where its reply is not there
pub way-failed : (at : Option Entry) (next : Entry → Reading) (fail : ℕ) (skip : Reading) (silent : Bool) → silent ≡ false → at ≡ None → way silent at next fail skip ≡ Err fail
way-failed at next fail skip silent s a =
    ap (λ (b : Bool). way b at next fail skip) s ∙ ap (λ (o : Option Entry). way false o next fail skip) a

-- what may be silent is read or passed over where its reply is there, whichever goes further
pub way-either : (at : Option Entry) (next : Entry → Reading) (fail : ℕ) (skip : Reading) (silent : Bool) (entry : Entry) → silent ≡ true → at ≡ Some entry → way silent at next fail skip ≡ further (next entry) skip
way-either at next fail skip silent entry s a =
    ap (λ (b : Bool). way b at next fail skip) s ∙ ap (λ (o : Option Entry). way true o next fail skip) a

-- what may be silent and has no reply there is passed over, or fails where that goes further
pub way-passed : (at : Option Entry) (next : Entry → Reading) (fail : ℕ) (skip : Reading) (silent : Bool) → silent ≡ true → at ≡ None → way silent at next fail skip ≡ further (Err fail) skip
way-passed at next fail skip silent s a =
    ap (λ (b : Bool). way b at next fail skip) s ∙ ap (λ (o : Option Entry). way true o next fail skip) a

-- ---- of two readings

-- The greater of two is the first where the second is not above it.
max-left : (a b : ℕ) → b ≤ a → max a b ≡ a
max-left a b h = omega (arith, h)

-- The greater of two is the second where the first is not above it.
max-right : (a b : ℕ) → a ≤ b → max a b ≡ b
max-right a b h = omega (arith, h)

-- The greatest of three is the same however they are paired.
max-assoc : (a b c : ℕ) → max (max a b) c ≡ max a (max b c)
max-assoc a b c = omega arith

-- of three readings the one that goes furthest is the same however they are paired
pub further-assoc : (a b c : Reading) → further (further a b) c ≡ further a (further b c)
further-assoc (Ok x) b c = refl
further-assoc (Err m) (Ok y) c = refl
further-assoc (Err m) (Err n) (Ok z) = refl
further-assoc (Err m) (Err n) (Err k) = ap Err (max-assoc m n k)

-- of one reading twice the one that goes furthest is that one
pub further-self : (a : Reading) → further a a ≡ a
further-self (Ok x) = refl
further-self (Err m) = ap Err (max-left m m (omega arith))

-- it comes to the end, or fails at this line or later
abbrev pub Late : ℕ → Reading → Type 0
Late line (Ok entries) = Unit {0}
Late line (Err at) = line ≤ at

-- what fails late enough fails late enough for an earlier line
pub late-less : (a b : ℕ) (r : Reading) → a ≤ b → Late b r → Late a r
late-less a b (Ok entries) few h = tt
late-less a b (Err at) few h = omega (arith, few, h)

-- of two that fail late enough so does the one that goes further
pub late-further : (line : ℕ) (a b : Reading) → Late line a → Late line b → Late line (further a b)
late-further line (Ok x) b h k = tt
late-further line (Err m) (Ok y) h k = tt
late-further line (Err m) (Err n) h k = omega (arith, h, k)

-- a fault in front of a reading that is late goes less far than it
pub late-first : (line : ℕ) (r : Reading) → Late line r → further (Err line) r ≡ r
late-first line (Ok entries) h = refl
late-first line (Err at) h = ap Err (max-right line at h)

-- a fault behind a reading that is late goes less far than it
pub late-last : (line : ℕ) (r : Reading) → Late line r → further r (Err line) ≡ r
late-last line (Ok entries) h = refl
late-last line (Err at) h = ap Err (max-left at line h)

-- One due's way is late enough where its reply, its fault and what is read without it are.
late-way : (line : ℕ) (silent : Bool) (at : Option Entry) (next : Entry → Reading) (fail : ℕ) (skip : Reading) → ((entry : Entry) → Late line (next entry)) → line ≤ fail → Late line skip
    → Late line (way silent at next fail skip)
late-way line true (Some entry) next fail skip h few k = late-further line (next entry) skip (h entry) k
late-way line true None next fail skip h few k = late-further line (Err fail) skip few k
late-way line false (Some entry) next fail skip h few k = h entry
late-way line false None next fail skip h few k = few

-- A reading that ends, or fails at a line, fails at that line or later.
late-end : (b : Bool) (line : ℕ) (earlier : List Entry) → Late line (cond {A = Reading} b (Ok earlier) (Err line))
late-end true line earlier = tt
late-end false line earlier = omega arith

module _ (tables : List TableDecl) where
  -- the next line behind one reply more
  pub next-more : (entries : List Entry) (entry : Entry) → next_line tables (entries ++ entry ∷ []) ≡ next_line tables entries + line_count tables entry
  next-more entries entry = let e = sum_by_push (line_count tables) entries entry in omega (arith, e)

  -- a reading fails behind what was read
  pub late : (dues : List Due) (earlier : List Entry) (lines : List (List ℕ)) → Late (next_line tables earlier) (reading tables dues earlier lines)
  late [] earlier [] = tt
  late [] earlier (line ∷ behind) = omega arith
  late (due ∷ dues) earlier [] = late-end (list_all may_be_silent (due ∷ dues)) (next_line tables earlier) earlier
  late (due ∷ dues) earlier (line ∷ behind) =
      late-way (next_line tables earlier) (may_be_silent due) (reply_at tables earlier due line behind) (λ entry. reading tables dues (earlier ++ entry ∷ []) (drop (line_count tables entry) (line ∷ behind)))
      (next_line tables earlier + lines_begun tables earlier due line behind) (reading tables dues earlier (line ∷ behind))
      (λ entry. late-less (next_line tables earlier) (next_line tables (earlier ++ entry ∷ [])) _ (let e = next-more earlier entry in omega (arith, e)) (late dues (earlier ++ entry ∷ []) (drop (line_count tables entry) (line ∷ behind))))
      (omega arith) (late dues earlier (line ∷ behind))

  -- ---- one due

  -- what is due takes its reply where it may not be silent
  pub taken : (due : Due) (dues : List Due) (earlier : List Entry) (line : List ℕ) (behind : List (List ℕ)) (entry : Entry) → may_be_silent due ≡ false → reply_at tables earlier due line behind ≡ Some entry
      → reading tables (due ∷ dues) earlier (line ∷ behind) ≡ reading tables dues (earlier ++ entry ∷ []) (drop (line_count tables entry) (line ∷ behind))
  taken due dues earlier line behind entry silent at =
      way-taken (reply_at tables earlier due line behind) (λ entry. reading tables dues (earlier ++ entry ∷ []) (drop (line_count tables entry) (line ∷ behind)))
      (next_line tables earlier + lines_begun tables earlier due line behind) (reading tables dues earlier (line ∷ behind)) (may_be_silent due) entry silent at

  -- what is due fails where it may not be silent and its reply is not there
  pub failed : (due : Due) (dues : List Due) (earlier : List Entry) (line : List ℕ) (behind : List (List ℕ)) → may_be_silent due ≡ false → reply_at tables earlier due line behind ≡ None
      → reading tables (due ∷ dues) earlier (line ∷ behind) ≡ Err (next_line tables earlier + lines_begun tables earlier due line behind)
  failed due dues earlier line behind silent at =
      way-failed (reply_at tables earlier due line behind) (λ entry. reading tables dues (earlier ++ entry ∷ []) (drop (line_count tables entry) (line ∷ behind)))
      (next_line tables earlier + lines_begun tables earlier due line behind) (reading tables dues earlier (line ∷ behind)) (may_be_silent due) silent at

  -- what may be silent takes its reply or is passed over, whichever goes further
  pub either : (due : Due) (dues : List Due) (earlier : List Entry) (line : List ℕ) (behind : List (List ℕ)) (entry : Entry) → may_be_silent due ≡ true → reply_at tables earlier due line behind ≡ Some entry
      → reading tables (due ∷ dues) earlier (line ∷ behind)
      ≡ further (reading tables dues (earlier ++ entry ∷ []) (drop (line_count tables entry) (line ∷ behind))) (reading tables dues earlier (line ∷ behind))
  either due dues earlier line behind entry silent at =
      way-either (reply_at tables earlier due line behind) (λ entry. reading tables dues (earlier ++ entry ∷ []) (drop (line_count tables entry) (line ∷ behind)))
      (next_line tables earlier + lines_begun tables earlier due line behind) (reading tables dues earlier (line ∷ behind)) (may_be_silent due) entry silent at

  -- what may be silent is passed over where its reply is not there and nothing of it was begun
  pub passed : (due : Due) (dues : List Due) (earlier : List Entry) (line : List ℕ) (behind : List (List ℕ)) → may_be_silent due ≡ true → reply_at tables earlier due line behind ≡ None
      → lines_begun tables earlier due line behind ≡ 0 → reading tables (due ∷ dues) earlier (line ∷ behind) ≡ reading tables dues earlier (line ∷ behind)
  passed due dues earlier line behind silent at begun =
      let l = next_line tables earlier in
      way-passed (reply_at tables earlier due line behind) (λ entry. reading tables dues (earlier ++ entry ∷ []) (drop (line_count tables entry) (line ∷ behind)))
      (l + lines_begun tables earlier due line behind) (reading tables dues earlier (line ∷ behind)) (may_be_silent due) silent at
      ∙ ap (λ (n : ℕ). further (Err n) (reading tables dues earlier (line ∷ behind))) (let e : l + lines_begun tables earlier due line behind ≡ l = omega (arith, begun) in e)
      ∙ late-first l (reading tables dues earlier (line ∷ behind)) (late dues earlier (line ∷ behind))

  -- one that has a line, at the end
  pub missing : (due : Due) (dues : List Due) (earlier : List Entry) → may_be_silent due ≡ false → reading tables (due ∷ dues) earlier [] ≡ Err (next_line tables earlier)
  missing due dues earlier silent = ap (λ (b : Bool). cond {A = Reading} (b && list_all may_be_silent dues) (Ok earlier) (Err (next_line tables earlier))) silent

  -- one that may be silent, at the end
  pub silenced : (due : Due) (dues : List Due) (earlier : List Entry) → may_be_silent due ≡ true → reading tables (due ∷ dues) earlier [] ≡ reading tables dues earlier []
  silenced due [] earlier silent = ap (λ (b : Bool). cond {A = Reading} (b && true) (Ok earlier) (Err (next_line tables earlier))) silent
  silenced due (next ∷ dues) earlier silent = ap (λ (b : Bool). cond {A = Reading} (b && list_all may_be_silent (next ∷ dues)) (Ok earlier) (Err (next_line tables earlier))) silent
