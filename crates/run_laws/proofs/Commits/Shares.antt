-- The commits of a part of a log are what the sessions committed there.
use Rattle.std.proofs.Common.{◌≡◌, ◌≢◌, ◌⊎◌, inl, inr, ℕ, zero, suc, ◌+◌, ◌<◌, ◌≤◌, Bool, true, false, cond, ◌==◌, List, [], ◌∷◌, ◌++◌, map, length, drop, refl, sym, ap, ◌∙◌, subst, arith, append_assoc, append-nil, length-append}
use Rattle.std.specs.Prelude.{All}
use Rattle.std.specs.List.{flat_map, range_with_len}
use Rattle.std.specs.List.Sorted.{IsPermutation}
use Rattle.std.proofs.Math.Seq.{drop-append_seam}
use Rattle.std.proofs.lemmas.Bool.Decides.{nat_tests}
use Rattle.std.proofs.lemmas.List.{length-map, map-append}
use Rattle.std.proofs.lemmas.List.Elements.{All-head, All-tail}
use Rattle.std.proofs.lemmas.List.FromFn.{length-range_with_len}
use Rattle.std.proofs.lemmas.List.Sorted.{IsPermutation-append, IsPermutation-append_comm, IsPermutation-append_left, IsPermutation-append_right, IsPermutation-refl, IsPermutation-sym, IsPermutation-trans}
use Rattle.isolation_spec.specs.Contents.{History}
use Rattle.timeline_laws.proofs.Ranges.{range-append}
use Rattle.run_spec.specs.declared.commit.Commit.{Commit}
use Rattle.run_spec.specs.Commits.{SessionWrites, commit_by, commits_along, commits_of, history_behind, write_sets, writes_of}
use Rattle.run_spec.specs.Occurrences.{Occurrence, under}
use Rattle.run_laws.proofs.Commits.Histories.{along_append, histories_are, length_sets, machines_lead, same_or_not, writes_apart, writes_more}
use Rattle.run_laws.proofs.Commits.Sorted.{sorted_are}
use Rattle.run_laws.specs.Commits.Shares.{HistoriesGoOn, IsUnderOne, NumbersGoOn, SharesAreTheCommits, SortedSharesAreTheCommits, commits_since}

-- ---- lists that are put together

-- Of numbers above one none is it.
none_apart : (X : ℕ → List Commit) (q base n : ℕ) → q < base → flat_map (λ r. cond (q == r) (X r) []) (range_with_len base n) ≡ []
none_apart X q base zero low = refl
none_apart X q base (suc n) low =
    let apart : (q == base) ≡ false = grind (arith, nat_tests, low) in
    ap (λ (b : Bool). cond b (X base) [] ++ flat_map (λ r. cond (q == r) (X r) []) (range_with_len (base + 1) n)) apart
    ∙ none_apart X q (base + 1) n (omega (arith, low))

-- Of the numbers in a range one is it.
one_of : (X : ℕ → List Commit) (q base n : ℕ) → base ≤ q → q < base + n → flat_map (λ r. cond (q == r) (X r) []) (range_with_len base n) ≡ X q
one_of X q base zero low high = absurd (let never : ⊥ = omega (arith, low, high) in never)
one_of X q base (suc n) low high = go (same_or_not q base) (λ above. one_of X q (base + 1) n above (omega (arith, high)))
  where
    go : (q ≡ base) ⊎ (q ≢ base) → (base + 1 ≤ q → flat_map (λ r. cond (q == r) (X r) []) (range_with_len (base + 1) n) ≡ X q)
        → flat_map (λ r. cond (q == r) (X r) []) (range_with_len base (suc n)) ≡ X q
    go (inl same) further =
        let is : (q == base) ≡ true = grind (arith, nat_tests, same) in
        ap (λ (b : Bool). cond b (X base) [] ++ flat_map (λ r. cond (q == r) (X r) []) (range_with_len (base + 1) n)) is
        ∙ ap (λ (cs : List Commit). X base ++ cs) (none_apart X q (base + 1) n (omega (arith, same)))
        ∙ append-nil (X base) ∙ ap X (sym same)
    go (inr apart) further =
        let is : (q == base) ≡ false = grind (arith, nat_tests, apart) in
        ap (λ (b : Bool). cond b (X base) [] ++ flat_map (λ r. cond (q == r) (X r) []) (range_with_len (base + 1) n)) is
        ∙ further (omega (arith, low, apart))

-- Two lists for each number, laid one behind the other, are those of the first kind and those of the
-- second.
parts_of : (A B : ℕ → List Commit) (qs : List ℕ) → IsPermutation (flat_map (λ q. A q ++ B q) qs) (flat_map A qs ++ flat_map B qs)
parts_of A B [] = IsPermutation-refl []
parts_of A B (q ∷ qs) =
    IsPermutation-trans ((A q ++ B q) ++ flat_map (λ r. A r ++ B r) qs) ((A q ++ B q) ++ (flat_map A qs ++ flat_map B qs)) ((A q ++ flat_map A qs) ++ (B q ++ flat_map B qs))
    (IsPermutation-append_right (A q ++ B q) (flat_map (λ r. A r ++ B r) qs) (flat_map A qs ++ flat_map B qs) (parts_of A B qs))
    (subst (λ (cs : List Commit). IsPermutation cs ((A q ++ flat_map A qs) ++ (B q ++ flat_map B qs))) (sym (append_assoc (A q) (B q) (flat_map A qs ++ flat_map B qs)))
    (subst (IsPermutation (A q ++ (B q ++ (flat_map A qs ++ flat_map B qs)))) (sym (append_assoc (A q) (flat_map A qs) (B q ++ flat_map B qs)))
    (IsPermutation-append_right (A q) (B q ++ (flat_map A qs ++ flat_map B qs)) (flat_map A qs ++ (B q ++ flat_map B qs)) turned)))
  where
    turned : IsPermutation (B q ++ (flat_map A qs ++ flat_map B qs)) (flat_map A qs ++ (B q ++ flat_map B qs))
    turned =
        subst (λ (cs : List Commit). IsPermutation cs (flat_map A qs ++ (B q ++ flat_map B qs))) (append_assoc (B q) (flat_map A qs) (flat_map B qs))
        (subst (IsPermutation ((B q ++ flat_map A qs) ++ flat_map B qs)) (append_assoc (flat_map A qs) (B q) (flat_map B qs))
        (IsPermutation-append_left (flat_map B qs) (B q ++ flat_map A qs) (flat_map A qs ++ B q) (IsPermutation-append_comm (B q) (flat_map A qs))))

-- What gives nothing for each number gives nothing.
none_of : (A : ℕ → List Commit) (qs : List ℕ) → ((q : ℕ) → A q ≡ []) → flat_map A qs ≡ []
none_of A [] none = refl
none_of A (q ∷ qs) none = ap (λ (cs : List Commit). cs ++ flat_map A qs) (none q) ∙ none_of A qs none

-- What gives the same for each number gives the same.
pub same_of : (A B : ℕ → List Commit) (qs : List ℕ) → ((q : ℕ) → A q ≡ B q) → flat_map A qs ≡ flat_map B qs
same_of A B [] same = refl
same_of A B (q ∷ qs) same = ap (λ (cs : List Commit). cs ++ flat_map A qs) (same q) ∙ ap (λ (cs : List Commit). B q ++ cs) (same_of A B qs same)

-- ---- a session's commits

-- the commit that an event makes of what its session wrote, if it makes one
abbrev pub made_by : List Occurrence → Occurrence → ℕ → List Commit
made_by front o q = commit_by (writes_of (under q front)).own o.event o.reply

-- A session's commits along a part of a log.
abbrev pub along_of : ℕ → List Occurrence → List Occurrence → List Commit
along_of q front [] = []
along_of q front (o ∷ rest) = cond (o.session == q) (made_by front o q) [] ++ along_of q (front ++ o ∷ []) rest

-- An event adds its commit to its session's, and to no other's.
commits_more : (q : ℕ) (front : List Occurrence) (o : Occurrence) → commits_of (under q (front ++ o ∷ [])) ≡ commits_of (under q front) ++ cond (o.session == q) (made_by front o q) []
commits_more q front o = go (same_or_not o.session q)
  where
    go : (o.session ≡ q) ⊎ (o.session ≢ q) → commits_of (under q (front ++ o ∷ [])) ≡ commits_of (under q front) ++ cond (o.session == q) (made_by front o q) []
    go (inl same) =
        let is : (o.session == q) ≡ true = grind (arith, nat_tests, same) in
        ap (λ (w : SessionWrites). w.commits) (writes_more q front o same)
        ∙ ap (λ (b : Bool). commits_of (under q front) ++ cond b (made_by front o q) []) (sym is)
    go (inr apart) =
        let is : (o.session == q) ≡ false = grind (arith, nat_tests, apart) in
        ap (λ (w : SessionWrites). w.commits) (writes_apart q front o apart)
        ∙ sym (append-nil (commits_of (under q front)))
        ∙ ap (λ (b : Bool). commits_of (under q front) ++ cond b (made_by front o q) []) (sym is)

-- What it committed along a part stands behind what it had committed before.
commits_are : (q : ℕ) (front made : List Occurrence) → commits_of (under q (front ++ made)) ≡ commits_of (under q front) ++ along_of q front made
commits_are q front [] = ap (λ (es : List Occurrence). commits_of (under q es)) (append-nil front) ∙ sym (append-nil (commits_of (under q front)))
commits_are q front (o ∷ rest) =
    ap (λ (es : List Occurrence). commits_of (under q es)) (sym (append_assoc front (o ∷ []) rest))
    ∙ commits_are q (front ++ o ∷ []) rest
    ∙ ap (λ (cs : List Commit). cs ++ along_of q (front ++ o ∷ []) rest) (commits_more q front o)
    ∙ append_assoc (commits_of (under q front)) (cond (o.session == q) (made_by front o q) []) (along_of q (front ++ o ∷ []) rest)

-- So it is what it committed since.
pub since_is : (q : ℕ) (front made : List Occurrence) → commits_since front made q ≡ along_of q front made
since_is q front made =
    ap (drop (length (commits_of (under q front)))) (commits_are q front made)
    ∙ drop-append_seam (commits_of (under q front)) (along_of q front made)

-- ---- all sessions'

-- What all sessions committed along a part are its commits.
all_along : (n : ℕ) (front made : List Occurrence) → All (IsUnderOne n) made
    → IsPermutation (flat_map (λ q. along_of q front made) (range_with_len 1 n)) (commits_along front made)
all_along n front [] within = subst (λ (cs : List Commit). IsPermutation cs []) (sym (none_of (λ q. []) (range_with_len 1 n) (λ q. refl))) (IsPermutation-refl [])
all_along n front (o ∷ rest) within =
    IsPermutation-trans
    (flat_map (λ q. cond (o.session == q) (made_by front o q) [] ++ along_of q (front ++ o ∷ []) rest) (range_with_len 1 n))
    (flat_map (λ q. cond (o.session == q) (made_by front o q) []) (range_with_len 1 n) ++ flat_map (λ q. along_of q (front ++ o ∷ []) rest) (range_with_len 1 n))
    (made_by front o o.session ++ commits_along (front ++ o ∷ []) rest)
    (parts_of (λ q. cond (o.session == q) (made_by front o q) []) (λ q. along_of q (front ++ o ∷ []) rest) (range_with_len 1 n))
    (IsPermutation-append
    (flat_map (λ q. cond (o.session == q) (made_by front o q) []) (range_with_len 1 n)) (made_by front o o.session)
    (flat_map (λ q. along_of q (front ++ o ∷ []) rest) (range_with_len 1 n)) (commits_along (front ++ o ∷ []) rest)
    (subst (λ (cs : List Commit). IsPermutation cs (made_by front o o.session)) (sym here) (IsPermutation-refl (made_by front o o.session)))
    (all_along n (front ++ o ∷ []) rest (All-tail (IsUnderOne n) o rest within)))
  where
    here : flat_map (λ q. cond (o.session == q) (made_by front o q) []) (range_with_len 1 n) ≡ made_by front o o.session
    here =
        let its = All-head (IsUnderOne n) o rest within in
        let low = its.0 in
        let high = its.1 in
        one_of (made_by front o) o.session 1 n low (omega (arith, high))

-- The shares of all sessions are the commits.
pub shares_are : SharesAreTheCommits
shares_are n front made within =
    subst (λ (cs : List Commit). IsPermutation cs (commits_along front made))
    (same_of (λ q. along_of q front made) (commits_since front made) (range_with_len 1 n) (λ q. sym (since_is q front made)))
    (all_along n front made within)

-- The history goes on.
pub histories_go_on : HistoriesGoOn
histories_go_on first front made =
    ap (λ (cs : List Commit). first ++ write_sets cs) (along_append [] front made)
    ∙ ap (λ (sets : History). first ++ sets) (map-append (λ (c : Commit). c.writes) (commits_along [] front) (commits_along front made))
    ∙ sym (append_assoc first (write_sets (commits_along [] front)) (write_sets (commits_along front made)))

-- The number of a commit.
abbrev number_of : Commit → ℕ
number_of c = c.number

-- Numbers that are in order behind others are so by themselves.
numbers_behind : (a : ℕ) (xs ys : List Commit) → map number_of (xs ++ ys) ≡ range_with_len a (length (xs ++ ys))
    → map number_of ys ≡ range_with_len (a + length xs) (length ys)
numbers_behind a xs ys h =
    sym (drop-append_seam (map number_of xs) (map number_of ys))
    ∙ ap (drop (length (map number_of xs))) (sym (map-append number_of xs ys) ∙ h ∙ ap (range_with_len a) (length-append xs ys) ∙ range-append a (length xs) (length ys))
    ∙ ap (λ (n : ℕ). drop n (range_with_len a (length xs) ++ range_with_len (a + length xs) (length ys))) (length-map xs number_of ∙ sym (length-range_with_len a (length xs)))
    ∙ drop-append_seam (range_with_len a (length xs)) (range_with_len (a + length xs) (length ys))

-- The numbers go on.
pub numbers_go_on : NumbersGoOn
numbers_go_on shape log front made is_shape ends =
    let led = machines_lead shape log is_shape ends.lawful in
    let all = histories_are shape log led.0 ends.named led.1 in
    let whole : commits_along [] (front ++ made) ≡ commits_along [] front ++ commits_along front made = along_append [] front made in
    let numbers : map number_of (commits_along [] front ++ commits_along front made) ≡ range_with_len (length shape.first + 1) (length (commits_along [] front ++ commits_along front made)) =
    subst (λ (cs : List Commit). map number_of cs ≡ range_with_len (length shape.first + 1) (length cs)) (ap (commits_along []) ends.parted ∙ whole) all.numbers in
    let long = length-append shape.first (write_sets (commits_along [] front)) in
    let sets = length_sets (commits_along [] front) in
    let from : length shape.first + 1 + length (commits_along [] front) ≡ length (history_behind shape.first front) + 1 = omega (arith, long, sets) in
    numbers_behind (length shape.first + 1) (commits_along [] front) (commits_along front made) numbers
    ∙ ap (λ (n : ℕ). range_with_len n (length (commits_along front made))) from

-- What all sessions committed, sorted, are the commits.
pub sorted_shares_are : SortedSharesAreTheCommits
sorted_shares_are shape log front made n sorted is_shape ends within moved rises =
    let shares = flat_map (commits_since front made) (range_with_len 1 n) in
    sorted_are (length (history_behind shape.first front) + 1) (commits_along front made) sorted (numbers_go_on shape log front made is_shape ends)
    (IsPermutation-trans (commits_along front made) shares sorted (IsPermutation-sym shares (commits_along front made) (shares_are n front made within)) moved) rises
