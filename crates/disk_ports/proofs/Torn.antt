-- What a crash leaves by a way of tearing is among what it may leave.
use Rattle.std.proofs.Common.{◌≡◌, ℕ, ◌+◌, ◌-◌, ◌/◌, ◌<◌, ◌≤◌, List, [], ◌∷◌, ◌++◌, inr, length, take}
use Rattle.std.proofs.Common.{drop, map, get_or, sym, ◌∙◌, ap, subst, arith, length-append}
use Rattle.std.proofs.Common.{take-append-drop}
use Rattle.std.proofs.lemmas.List.{length-take, length-drop, length-replicate, length-map}
use Rattle.std.proofs.lemmas.List.{reverse-append, length-reverse, map-append, drop_at}
use Rattle.std.proofs.lemmas.Grind.{take_at_read}
use Rattle.std.specs.Prelude.{replicate, reverse}
use Rattle.disk_ports.specs.Memory.{Held, Step, Asked, Wrote, Synced, outcomes, step_of, held_since}
use Rattle.disk_ports.specs.Tears.{TornBy, TornStep, part_of}
use Rattle.disk_ports.specs.declared.memory.Call.{Call}
use Rattle.disk_ports.specs.declared.tears.Tear.{Tear}
use Rattle.disk_ports.specs.declared.tears.Tear.TheVariants as tear
use Rattle.disk_ports.proofs.Laying.{tears_laid, tears_more}
use Rattle.disk_ports.proofs.Past.{past_push}

-- no part is longer than its piece
part_fits : (how : Tear) (piece : List ℕ) → length (part_of how piece) ≤ length piece
part_fits tear.Nothing piece = omega arith
part_fits tear.Front piece = omega (arith, length-take (length piece / 2) piece)
part_fits tear.Back piece =
    omega (
      arith,
      length-append (replicate (length piece / 2) 0) (drop (length piece / 2) piece),
      length-replicate {A = ℕ} (length piece / 2) 0,
      length-drop (length piece / 2) piece,
    )
part_fits tear.Whole piece = omega arith
part_fits (tear.Filled byte) piece = omega (arith, length-replicate {A = ℕ} (length piece) byte)

pub torn_outcomes : (how : Tear) (first : List ℕ) (past : List Step) (c : List ℕ)
    → TornBy how first past c → outcomes first past c
torn_outcomes how first [] c torn = torn
torn_outcomes how first (Asked ∷ past) c torn =
    subst (outcomes first past) (sym torn.2) (torn_outcomes how first past torn.0 torn.1)
torn_outcomes how first (Wrote at piece ∷ past) c torn = (
  torn.0,
  torn_outcomes how first past torn.0 torn.1,
  tears_more at (length (part_of how piece)) (length piece) torn.0 c (part_fits how piece)
      (tears_laid at (part_of how piece) torn.0 c torn.2),
)
torn_outcomes how first (Synced bytes ∷ past) c torn = torn.2

-- one call more
pub torn_next : (how : Tear) (first : List ℕ) (calls : List Call) (i : ℕ) (call : Call)
    → i < length calls → call ≡ get_or calls i call → (file c : List ℕ)
    → TornBy how first (map step_of (reverse (take i calls))) file
    → TornStep how (step_of call) file c
    → TornBy how first (map step_of (reverse (take (i + 1) calls))) c
torn_next how first calls i call within is file c torn step =
    let more : take (i + 1) calls ≡ take i calls ++ call ∷ [] =
    (take_at_read calls i call within).1 ∙ ap (λ x. take i calls ++ x ∷ []) (sym is) in
    subst (λ (p : List Step). TornBy how first p c)
    (sym (ap (λ (l : List Call). map step_of (reverse l)) more ∙ past_push (take i calls) call))
    (file, torn, step)

-- the first calls are what the last ones leave of the past
pub first_calls : (calls : List Call) (count : ℕ) → count ≤ length calls
    → drop (length calls - count) (map step_of (reverse calls))
    ≡ map step_of (reverse (take count calls))
first_calls calls count within =
    ap (λ (l : List Step). drop (length calls - count) l)
    (ap (λ (l : List Call). map step_of (reverse l)) (sym (take-append-drop count calls))
    ∙ ap (λ (l : List Call). map step_of l) (reverse-append (take count calls) (drop count calls))
    ∙ map-append step_of (reverse (drop count calls)) (reverse (take count calls)))
    ∙ drop_at (map step_of (reverse (drop count calls))) (map step_of (reverse (take count calls)))
    (length calls - count)
    (length-map (reverse (drop count calls)) step_of ∙ length-reverse (drop count calls)
    ∙ length-drop count calls)

-- what a crash left behind the first calls is among what it may have left from then on
pub left_from : (how : Tear) (held : Held) (first : List ℕ) (calls made : List Call) (count : ℕ)
    (bytes : List ℕ) → held.past ≡ map step_of (reverse calls) → first ≡ held.first
    → made ≡ take count calls → count ≤ length held.past
    → TornBy how first (map step_of (reverse made)) bytes → held_since held count bytes
left_from how held first calls made count bytes past_is first_is made_is within torn = inr (record {
  back = length held.past - count;
  from = omega (arith, length-drop (length held.past - count) held.past, within);
  left = torn_outcomes how held.first (drop (length held.past - count) held.past) bytes
      (subst (λ (p : List Step). TornBy how held.first p bytes) (sym behind)
      (subst (λ f. TornBy how f (map step_of (reverse made)) bytes) first_is torn));
})
  where
    size : length held.past ≡ length calls
    size = ap length past_is ∙ length-map (reverse calls) step_of ∙ length-reverse calls

    behind : drop (length held.past - count) held.past ≡ map step_of (reverse made)
    behind =
        ap (λ (p : List Step). drop (length held.past - count) p) past_is
        ∙ ap (λ n. drop (n - count) (map step_of (reverse calls))) size
        ∙ first_calls calls count (omega (arith, within, size))
        ∙ ap (λ (l : List Call). map step_of (reverse l)) (sym made_is)
