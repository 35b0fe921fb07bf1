-- The highest before the reply that is judged, by peaks.
use Rattle.std.proofs.Common.{◌≡◌, ℕ, ◌+◌, max, Bool, ◌&&◌, List, [], ◌∷◌, ◌++◌, length, take, nat_lt, nat_le, Option, None, Some, refl, sym, ap, ◌∙◌, subst, arith}
use Rattle.std.specs.List.{list_all, filter_map, cons_option}
use Rattle.std.specs.Option.{option_map_or}
use Rattle.std.specs.Prelude.{slice_index_or}
use Rattle.std.proofs.lemmas.Bool.Decides.{nat_tests}
use Rattle.std.proofs.lemmas.List.{length-map, get_or_default}
use Rattle.outcome_spec.specs.Entries.{Entry, before, shown_in}
use Rattle.outcome_spec.specs.Upkeep.{stamp_in}
use Rattle.order_laws.specs.Places.{round_start, own_start, between}
use Rattle.order_laws.proofs.Places.{by-places}
use Rattle.mark_index.specs.Marks.{ArePeaks, highest, most_below, own_below, part}
use Rattle.mark_index.specs.declared.marks.Peak.{Peak}
use Rattle.mark_index.proofs.Noted.{highest-append}
use Rattle.output_read.specs.Kept.{entries_of, entry_of}
use Rattle.output_read.specs.declared.kept.KeptReply.{KeptReply}
use Rattle.outcome_counts.specs.Asked.{IsAsked, asked_at, peak_before}
use Rattle.outcome_counts.specs.BlockMarks.{starts_in, above_stamp}
use Rattle.outcome_counts.specs.declared.keys.Block.{Block}
use Rattle.outcome_counts.specs.declared.stretch.Stretch.{Stretch}
use Rattle.outcome_counts.proofs.Counts.{InOrder, in-order}
use Rattle.outcome_counts.proofs.Keyed.{above-said}
use Rattle.outcome_counts.proofs.Starts.{KeptAt, kept-at, start-at}

module _ (value : Entry → ℕ) (replies : List KeptReply) (at : ℕ) (stretch : Stretch) (asked : IsAsked replies at stretch)
    (peaks : List Peak) (noted : ArePeaks value (starts_in (entries_of replies)) (entries_of replies) (length replies) peaks) (none : KeptReply) where
  -- The replies as they are judged.
  abbrev es : List Entry
  es = entries_of replies

  -- The reply that is judged.
  abbrev e : Entry
  e = asked_at replies at none

  -- The judged reply is kept at its place.
  its : KeptAt replies at (slice_index_or replies at none)
  its = kept-at replies at (slice_index_or replies at none) asked.inside (get_or_default replies at none (slice_index_or replies at none) asked.inside)

  -- The places about the judged reply stand in order.
  order : InOrder es e (length its.front)
  order = in-order es its.front e its.rest its.whole asked.rises

  -- The replies to judge are as many as the kept ones.
  long : length es ≡ length replies
  long = length-map replies entry_of

  -- In front of the judged reply are as many as its place tells.
  far : length its.front ≡ at
  far = its.far

  -- The peaks give the highest of the rounds before the judged reply's.
  past : most_below (round_start es e) peaks ≡ highest value (take (round_start es e) es)
  past = noted.most (round_start es e) (let a = order.starts in let b = order.rounds in let f = far in let i = asked.inside in omega (arith, a, b, f, i))

  -- The peaks give the highest of its own in front of the judged reply.
  own : own_below (own_start es e) at peaks ≡ highest value (between (own_start es e) at es)
  own =
      let start : starts_in es at ≡ own_start es e = start-at es its.front e its.rest at its.whole far in
      let i = asked.inside in
      let l = long in
      subst (λ (n : ℕ). own_below n at peaks ≡ highest value (part n at es)) start (noted.own at (omega (arith, i)) (omega (arith, i, l)))

  -- the peaks give the highest before the reply that is judged
  pub peaks-before : peak_before peaks at stretch ≡ highest value (before es e)
  peaks-before =
      ap (peak_before peaks at) (asked.places none)
      ∙ ap (λ (n : ℕ). max n (own_below (own_start es e) at peaks)) past
      ∙ ap (λ (n : ℕ). max (highest value (take (round_start es e) es)) n) own
      ∙ sym (highest-append value (take (round_start es e) es) (between (own_start es e) at es))
      ∙ ap (λ (n : ℕ). highest value (take (round_start es e) es ++ between (own_start es e) n es)) (sym far)
      ∙ sym (ap (highest value) (by-places its.front e its.rest es its.whole asked.rises).0)

-- ---- numbers that are all below one

-- With a number more in front, if one is shown, all are below a bound where the highest is.
below-step : (o : Option ℕ) (others : List ℕ) (high bound : ℕ) → list_all (λ n. nat_lt n bound) others ≡ nat_le high bound
    → list_all (λ n. nat_lt n bound) (cons_option o others) ≡ nat_le (max (option_map_or (λ n. n + 1) o 0) high) bound
below-step None others high bound h = h ∙ (let e : max 0 high ≡ high = omega arith in rw e refl)
below-step (Some n) others high bound h = ap (λ (b : Bool). nat_lt n bound && b) h ∙ both n high bound
  where
    both : (n high bound : ℕ) → (nat_lt n bound && nat_le high bound) ≡ nat_le (max (n + 1) high) bound
    both n high bound = grind (arith, nat_tests)

-- numbers that are shown are below a bound where one more than the highest is no more than it
pub all-below : {X : Type 0} (shown : X → Option ℕ) (bound : ℕ) (xs : List X) → list_all (λ n. nat_lt n bound) (filter_map shown xs) ≡ nat_le (highest (λ x. option_map_or (λ n. n + 1) (shown x) 0) xs) bound
all-below shown bound [] = grind (arith, nat_tests)
all-below shown bound (x ∷ xs) = below-step (shown x) (filter_map shown xs) (highest (λ y. option_map_or (λ n. n + 1) (shown y) 0) xs) bound (all-below shown bound xs)

-- two values that agree have the same highest
pub highest-agree : {X : Type 0} (f g : X → ℕ) → ((x : X) → f x ≡ g x) → (xs : List X) → highest f xs ≡ highest g xs
highest-agree f g same [] = refl
highest-agree f g same (x ∷ xs) = ap (λ (n : ℕ). max n (highest f xs)) (same x) ∙ ap (λ (n : ℕ). max (g x) n) (highest-agree f g same xs)

-- the block's stamps are all below one exactly where the highest, plus one, is at most it
pub stamps-below : (block : Block) (stamp : ℕ) (entries : List Entry) → list_all (λ earlier. nat_lt earlier stamp) (shown_in (stamp_in block.table block.block) entries) ≡ nat_le (highest (above_stamp block) entries) stamp
stamps-below block stamp entries =
    all-below (λ (e : Entry). stamp_in block.table block.block e.reply.said) stamp entries
    ∙ ap (λ (n : ℕ). nat_le n stamp) (highest-agree (λ (e : Entry). option_map_or (λ n. n + 1) (stamp_in block.table block.block e.reply.said) 0) (above_stamp block) (λ e. above-said block e.reply.said) entries)
