-- What passes are after a split, a note and a join.
use Rattle.std.proofs.Common.{◌≡◌, ℕ, zero, suc, ◌+◌, ◌^◌, ◌-◌, ◌<◌, ◌≤◌, ◌==◌, cond, List, [], ◌∷◌, ◌++◌, Option, None, Some, length, drop, take, refl, sym, ap, subst, ◌∙◌, length-append, length-drop, length-take, arith}
use Rattle.std.specs.Prelude.{replicate, slice_get}
use Rattle.atomic_table.specs.Seated.{TableId}
use Rattle.atomic_table.specs.Table.{Me}
use Rattle.atomic_table.specs.declared.shared.Seat.{Seat}
use Rattle.hall_rule.specs.HallInvariant.{hands_of, worn_by}
use Rattle.hall_rule.specs.Hands.{Holds}
use Rattle.hall_rule.specs.Meaning.{Laws, Meaning}
use Rattle.hall_rule.specs.Views.{Sees, dealt, greatest, joined_by, looked, newcomer, without}
use Rattle.hall_rule.specs.declared.view.View.{View}
use Rattle.hall_rule.proofs.Logs.{stays}
use Rattle.hall_rule.proofs.Numbers.{has_left, has_right, has_without, without_distinct, without_length}
use Rattle.hall_rule.specs.Opening.{first_view}
use Rattle.hall_rule.proofs.Opens.{above_to, below_to, sessions_to-distinct, sessions_to-length, zeros}
use Rattle.hall_rule.proofs.Divided.{greatest_there}
use Rattle.hall_steps.specs.Hall.{EachHand, IsNew, IsPass, IsSameSeat, Joined, Knows, Settled, first_of, spares_of}

-- who has neither a claim nor a bump is no reader
pub none_read : (c d : ℕ) → c ≡ 0 → d ≡ 0 → cond {A = ℕ} (c == 0) 0 1 + cond {A = ℕ} (d == 0) 0 1 ≡ 0
none_read c d a b = ap (λ x. cond {A = ℕ} (x == 0) 0 1 + cond {A = ℕ} (d == 0) 0 1) a ∙ ap (λ x. cond {A = ℕ} (0 == 0) 0 1 + cond {A = ℕ} (x == 0) 0 1) b

-- a number many times is a list so long
pub replicate-length : (n x : ℕ) → length (replicate n x) ≡ n
replicate-length zero x = refl
replicate-length (suc n) x = let h = replicate-length n x in omega (arith, h)

module _ {P : Type 0} (Q : List (Option P) → Type 0) where
  -- What holds of each hand holds of those behind the first ones.
  each_drop : (n : ℕ) (hs : List (List (Option P))) → EachHand Q hs → EachHand Q (drop n hs)
  each_drop zero hs a = a
  each_drop (suc n) [] a = tt
  each_drop (suc n) (h ∷ hs) a = each_drop n hs a.1

  -- What holds of each hand holds of the first ones.
  each_take : (n : ℕ) (hs : List (List (Option P))) → EachHand Q hs → EachHand Q (take n hs)
  each_take zero hs a = tt
  each_take (suc n) [] a = tt
  each_take (suc n) (h ∷ hs) a = (a.0, each_take n hs a.1)

  -- what holds of each of two lists of hands holds of both in a row
  pub each_append : (hs gs : List (List (Option P))) → EachHand Q hs → EachHand Q gs → EachHand Q (hs ++ gs)
  each_append [] gs a b = b
  each_append (h ∷ hs) gs a b = (a.0, each_append hs gs a.1 b)

  -- what holds of each hand, and of one without places, holds of the first
  pub each_first : (hs : List (List (Option P))) → EachHand Q hs → Q [] → Q (first_of hs)
  each_first [] a none' = none'
  each_first (h ∷ hs) a none' = a.0

  -- What holds of each hand holds of each spare one.
  each_spare : (hs : List (List (Option P))) → EachHand Q hs → EachHand Q (spares_of hs)
  each_spare [] a = tt
  each_spare (h ∷ hs) a = a.1

-- no part lies in the hand
abbrev pub Empty : {P : Type 0} → List (Option P) → Type 0
Empty hand = (k : ℕ) → ¬ Holds hand k

-- a hand without places is empty
pub nothing : {P : Type 0} → Empty {P = P} []
nothing k h = let e : None ≡ Some (Some h.0) = h.1 in absurd (cc)

-- an empty hand with an empty place more is empty
pub empty_more : {P : Type 0} (h : List (Option P)) → Empty h → Empty (h ++ None ∷ [])
empty_more [] empty zero held = let e : Some None ≡ Some (Some held.0) = held.1 in absurd (cc)
empty_more [] empty (suc k) held = nothing k held
empty_more (x ∷ xs) empty zero held = empty zero held
empty_more (x ∷ xs) empty (suc k) held = empty_more xs (λ i h. empty (suc i) h) k held

-- the first stays the first
first_take : {P : Type 0} (n : ℕ) (hs : List (List (Option P))) → 0 < n → first_of (take n hs) ≡ first_of hs
first_take zero hs lt = absurd (omega (arith, lt))
first_take (suc n) [] lt = refl
first_take (suc n) (h ∷ hs) lt = refl

-- What holds of each spare hand holds of the spare ones among the first.
spares_take : {P : Type 0} (Q : List (Option P) → Type 0) (n : ℕ) (hs : List (List (Option P))) → EachHand Q (spares_of hs) → EachHand Q (spares_of (take n hs))
spares_take Q zero hs a = tt
spares_take Q (suc n) [] a = tt
spares_take Q (suc n) (h ∷ hs) a = each_take Q n hs a

-- What holds of each spare hand holds of those behind one first or more.
spares_drop : {P : Type 0} (Q : List (Option P) → Type 0) (n : ℕ) (hs : List (List (Option P))) → 0 < n → EachHand Q (spares_of hs) → EachHand Q (drop n hs)
spares_drop Q zero hs lt a = absurd (omega (arith, lt))
spares_drop Q (suc n) [] lt a = tt
spares_drop Q (suc n) (h ∷ hs) lt a = each_drop Q n hs a

-- What holds of the spare hands and of each further one holds of the spare ones of both.
spares_append : {P : Type 0} (Q : List (Option P) → Type 0) (hs gs : List (List (Option P))) → EachHand Q (spares_of hs) → EachHand Q gs → EachHand Q (spares_of (hs ++ gs))
spares_append Q [] gs a b = each_spare Q gs b
spares_append Q (h ∷ hs) gs a b = each_append Q hs gs a b

-- where the first of further hands is empty, what the first of all holds, the first in front does
pub held_before : {P : Type 0} (hs gs : List (List (Option P))) → Empty (first_of gs) → (k : ℕ) → Holds (first_of (hs ++ gs)) k → Holds (first_of hs) k
held_before [] gs empty k h = absurd (empty k h)
held_before (x ∷ hs) gs empty k h = h

-- What the first hand holds it holds with further hands behind it.
held_after : {P : Type 0} (hs gs : List (List (Option P))) → (k : ℕ) → Holds (first_of hs) k → Holds (first_of (hs ++ gs)) k
held_after [] gs k h = absurd (nothing k h)
held_after (x ∷ hs) gs k h = h

-- A part in the first of all hands lies in the first in front, where that holds one there.
same_first : {P : Type 0} (hs gs : List (List (Option P))) (k : ℕ) (p : P) → Holds (first_of hs) k → slice_get (first_of (hs ++ gs)) k ≡ Some (Some p) → slice_get (first_of hs) k ≡ Some (Some p)
same_first [] gs k p h e = absurd (nothing k h)
same_first (x ∷ hs) gs k p h e = e

-- Where the first hand and all spare ones are empty, each hand is.
empty_all : {P : Type 0} (hs : List (List (Option P))) → Empty (first_of hs) → EachHand Empty (spares_of hs) → EachHand Empty hs
empty_all [] a b = tt
empty_all (h ∷ hs) a b = (a, b)

module _ {P E T F : Type 0} (M : Meaning P E T F) where
  -- what is known of words is known of the same heads
  settled_here : (v : View E) (me : Me (Option P) (View E)) (hand hand' : List (Option P)) → me.0 ≡ v → hand' ≡ hand → Settled M 0 (v, []) hand → Settled M 0 me hand'
  settled_here v me hand hand' b c settled =
      subst (λ (h : List (Option P)). Settled M 0 me h) (sym c) (record {
        worn = λ k p ne at. ap (λ (x : View E). worn_by x k) b ∙ settled.worn k p ne at;
        hot = λ k p is at. absurd (omega (arith, is));
        drained = ap (λ (x : View E). x.drained) b ∙ settled.drained;
      })

  -- a new pass that has seen the log
  pub new_knows : (id : ℕ) (v : View E) (rs : List ℕ) (n : ℕ) (me : Me (Option P) (View E)) (hand : List (Option P)) → length v.stages ≡ length M.start → length v.worn ≡ length M.start → Empty hand → Sees M id (newcomer v rs) n me → Knows M id me hand × IsNew M v me.0 rs × Settled M 0 me hand
  new_knows id v rs n me hand stages wide empty sees =
      let log = sees.0 in
      let l = sees.1 in
      let w : View E = looked (newcomer v rs) log in
      let at : me ≡ (w, []) = λ i. (sees.2 i, sees.3 i) in
      let knows : Knows M id (w, []) hand = record {
        none_out = refl;
        home = refl;
        live = refl;
        stages = replicate-length (length v.stages) 0 ∙ stages;
        begins = l.begins;
        few_hands = l.few_hands;
        sound = l.sound;
        lawful = l.lawful;
        mine = l.mine;
        total = l.total;
        distinct = l.distinct;
        room = l.room;
        agrees = λ k p e. absurd (empty k (p, e));
        held = λ k h. absurd (empty k h);
        away = λ k h. zeros (length v.stages) k;
        few = l.few;
        budget = l.budget;
        limit = l.limit;
        tied = l.tied;
        wide = replicate-length (length v.worn) 0 ∙ wide;
        no_bump = refl;
        claims = omega arith;
        imaged = λ k p is. absurd (omega (arith, is));
      } in (
        subst (λ (x : Me (Option P) (View E)). Knows M id x hand) (sym at) knows,
        subst (λ (x : Me (Option P) (View E)). IsNew M v x.0 rs) (sym at) (record {
          joined = refl;
          mine = refl;
          hands = refl;
          sole = refl;
          taken = refl;
          free = refl;
          goes_on = l.goes_on;
          stays = record { goes_on = l.goes_on; spared = l.spared; transactions = l.transactions; facts = l.facts };
        }),
        record { worn = λ k p ne e. absurd (empty k (p, e)); hot = λ k p is e. absurd (empty k (p, e)); drained = ap (λ (x : Me (Option P) (View E)). x.0.drained) at },
      )

  -- the pass that was split
  pub left_pass : (z : TableId) (s t : Seat (Option P) (View E)) (hands hands' : List (List (Option P))) → IsPass M z s hands → 2 ≤ hands_of s.me.0 → length s.me.0.mine ≤ 2 ^ 56 → IsSameSeat s t → t.me ≡ (dealt s.me.0, s.me.1)
      → hands' ≡ take (length hands - 1) hands → IsPass M z t hands' × (first_of hands' ≡ first_of hands)
  left_pass z s t hands hands' pass two few st after' is =
      let v = s.me.0 in
      let knows = pass.of.1 in
      let c = pass.count in
      let first : first_of hands' ≡ first_of hands = ap first_of is ∙ first_take (length hands - 1) hands (omega (arith, c, two)) in
      let kept : Knows M s.id (dealt v, s.me.1) (first_of hands) = record {
        none_out = knows.none_out;
        home = knows.home;
        live = knows.live;
        stages = knows.stages;
        begins = knows.begins;
        few_hands = (let n = without_length (greatest v.sessions) v.sessions (greatest_there v.sessions (omega (arith, two))) in let f = knows.few_hands in omega (arith, n, f));
        sound = knows.sound;
        lawful = knows.lawful;
        mine = knows.mine;
        total = knows.total;
        distinct = without_distinct (greatest v.sessions) v.sessions knows.distinct;
        room = knows.room;
        agrees = knows.agrees;
        held = knows.held;
        away = knows.away;
        few = (let n = without_length (greatest v.sessions) v.sessions (greatest_there v.sessions (omega (arith, two))) in omega (arith, n, few, two));
        budget = (let n = without_length (greatest v.sessions) v.sessions (greatest_there v.sessions (omega (arith, two))) in let b = knows.budget in omega (arith, n, b));
        limit = knows.limit;
        tied = record {
          within = λ q h. knows.tied.within q (has_without (greatest v.sessions) q v.sessions h);
          named = knows.tied.named;
          alone = λ q is h. knows.tied.alone q is (has_without (greatest v.sessions) q v.sessions h);
        };
        wide = knows.wide;
        no_bump = knows.no_bump;
        claims = knows.claims;
        imaged = knows.imaged;
      } in
      let at_id : Knows M t.id (dealt v, s.me.1) (first_of hands) = subst (λ (i : ℕ). Knows M i (dealt v, s.me.1) (first_of hands)) (sym st.1) kept in
      let at_me : Knows M t.id t.me (first_of hands) = subst (λ (x : Me (Option P) (View E)). Knows M t.id x (first_of hands)) (sym after') at_id in (
        record {
          of = (st.0 ∙ pass.of.0, subst (Knows M t.id t.me) (sym first) at_me, settled_here (dealt v) t.me (first_of hands) (first_of hands') (ap (λ (m : Me (Option P) (View E)). m.0) after') first (record { worn = pass.of.2.worn; hot = pass.of.2.hot; drained = pass.of.2.drained }));
          count =
              let n = without_length (greatest v.sessions) v.sessions (greatest_there v.sessions (omega (arith, two))) in
              let a : length hands' ≡ length (take (length hands - 1) hands) = ap length is in
              let b = take_one_less hands in
              let d : length t.me.0.sessions ≡ length (without (greatest v.sessions) v.sessions) = ap (λ (x : Me (Option P) (View E)). length x.0.sessions) after' in
              omega (arith, n, a, b, c, d);
          places = subst (EachHand (λ h. length h ≡ length M.start)) (sym is) (each_take (λ h. length h ≡ length M.start) (length hands - 1) hands pass.places);
          spares = subst (λ x. EachHand Empty (spares_of x)) (sym is) (spares_take Empty (length hands - 1) hands pass.spares);
        },
        first,
      )
    where
      take_one_less : {A : Type 0} (xs : List A) → length (take (length xs - 1) xs) ≡ length xs - 1
      take_one_less xs = omega (arith, length-take (length xs - 1) xs)

  -- the pass that got its last hand
  pub right_pass : (z : TableId) (s f u : Seat (Option P) (View E)) (hands hands' : List (List (Option P))) (n : ℕ) → IsPass M z s hands → 2 ≤ hands_of s.me.0 → f.table_id ≡ z → f.me ≡ (newcomer s.me.0 (greatest s.me.0.sessions ∷ []), [])
      → IsSameSeat f u → Sees M f.id f.me.0 n u.me → hands' ≡ drop (length hands - 1) hands → IsPass M z u hands' × IsNew M s.me.0 u.me.0 (greatest s.me.0.sessions ∷ []) × Empty (first_of hands')
  right_pass z s f u hands hands' n pass two table made fu sees is =
      let v = s.me.0 in
      let c = pass.count in
      let empties : EachHand Empty hands' = subst (EachHand Empty) (sym is) (spares_drop Empty (length hands - 1) hands (omega (arith, c, two)) pass.spares) in
      let none' : Empty (first_of hands') = each_first Empty hands' empties nothing in
      let sees' : Sees M u.id (newcomer v (greatest v.sessions ∷ [])) n u.me = subst (λ (i : ℕ). Sees M i (newcomer v (greatest v.sessions ∷ [])) n u.me) (sym fu.1) (subst (λ (x : Me (Option P) (View E)). Sees M f.id x.0 n u.me) made sees) in
      let r = new_knows u.id v (greatest v.sessions ∷ []) n u.me (first_of hands') pass.of.1.stages pass.of.1.wide none' sees' in (
        record {
          of = (fu.0 ∙ table, r.0, r.2);
          count =
              let a : length hands' ≡ length (drop (length hands - 1) hands) = ap length is in
              let b = length-drop (length hands - 1) hands in
              let d : length u.me.0.sessions ≡ 1 = ap length r.1.hands in
              omega (arith, a, b, c, d, two);
          places = subst (EachHand (λ h. length h ≡ length M.start)) (sym is) (each_drop (λ h. length h ≡ length M.start) (length hands - 1) hands pass.places);
          spares = each_spare Empty hands' empties;
        },
        r.1,
        none',
      )

  -- two passes that became one
  pub joined_pass : (laws : Laws M) (z : TableId) (s e f t : Seat (Option P) (View E)) (hands theirs hands' : List (List (Option P))) (n : ℕ) → IsPass M z s hands → IsPass M z e theirs → Empty (first_of theirs)
      → IsSameSeat s f → f.me ≡ (joined_by s.id e.id s.me.0 e.me.0, s.me.1) → IsSameSeat f t → Sees M f.id f.me.0 n t.me → hands' ≡ hands ++ theirs
      → IsPass M z t hands' × Joined M s.id e.id s.me.0 e.me.0 t.me.0 × ((k : ℕ) → Holds (first_of hands) k → Holds (first_of hands') k)
  joined_pass laws z s e f t hands theirs hands' n pass ended empty sf both ft sees is =
      let v = s.me.0 in
      let u = e.me.0 in
      let x : View E = joined_by s.id e.id v u in
      let sees' : Sees M s.id x n t.me = subst (λ (i : ℕ). Sees M i x n t.me) sf.1 (subst (λ (y : Me (Option P) (View E)). Sees M f.id y.0 n t.me) both sees) in
      let log = sees'.0 in
      let l = sees'.1 in
      let w : View E = looked x log in
      let at : t.me ≡ (w, []) = λ i. (sees'.2 i, sees'.3 i) in
      let knows = pass.of.1 in
      let know : Knows M s.id (w, []) (first_of (hands ++ theirs)) = record {
        none_out = refl;
        home = knows.home;
        live = knows.live;
        stages = knows.stages;
        begins = l.begins;
        few_hands = l.few_hands;
        sound = l.sound;
        lawful = l.lawful;
        mine = l.mine;
        total = l.total;
        distinct = l.distinct;
        room = l.room;
        agrees = λ k p found.
            let h = held_before hands theirs empty k (p, found) in
            l.kept k (knows.held k h) ∙ knows.agrees k p (same_first hands theirs k p h found);
        held = λ k h. knows.held k (held_before hands theirs empty k h);
        away = λ k h. knows.away k (λ y. h (held_after hands theirs k y));
        few = l.few;
        budget = l.budget;
        limit = l.limit;
        tied = l.tied;
        wide = knows.wide;
        no_bump = knows.no_bump;
        claims = knows.claims;
        imaged = l.imaged;
      } in
      let at_id : Knows M t.id (w, []) (first_of (hands ++ theirs)) = subst (λ (i : ℕ). Knows M i (w, []) (first_of (hands ++ theirs))) (sym (ft.1 ∙ sf.1)) know in
      let at_me : Knows M t.id t.me (first_of (hands ++ theirs)) = subst (λ (y : Me (Option P) (View E)). Knows M t.id y (first_of (hands ++ theirs))) (sym at) at_id in (
        record {
          of = (
            ft.0 ∙ (sf.0 ∙ pass.of.0),
            subst (λ y. Knows M t.id t.me (first_of y)) (sym is) at_me,
            settled_here w t.me (first_of (hands ++ theirs)) (first_of hands') (ap (λ (m : Me (Option P) (View E)). m.0) at) (ap first_of is) (record {
              worn = λ k p ne found. pass.of.2.worn k p ne (same_first hands theirs k p (held_before hands theirs empty k (p, found)) found);
              hot = λ k p e found. absurd (omega (arith, e));
              drained = pass.of.2.drained;
            }),
          );
          count =
              let a : length hands' ≡ length hands + length theirs = ap length is ∙ length-append hands theirs in
              let b : length t.me.0.sessions ≡ length v.sessions + length u.sessions = ap (λ (y : Me (Option P) (View E)). length y.0.sessions) at ∙ length-append v.sessions u.sessions in
              let c = pass.count in let d = ended.count in
              omega (arith, a, b, c, d);
          places = subst (EachHand (λ h. length h ≡ length M.start)) (sym is) (each_append (λ h. length h ≡ length M.start) hands theirs pass.places ended.places);
          spares = subst (λ y. EachHand Empty (spares_of y)) (sym is) (spares_append Empty hands theirs pass.spares (empty_all theirs empty ended.spares));
        },
        subst (λ (y : Me (Option P) (View E)). Joined M s.id e.id v u y.0) (sym at) (record {
          joined = refl;
          sessions = refl;
          mine = sym l.mine;
          sole = refl;
          entries = let a = l.total in let b = knows.total in let c = ended.of.1.total in omega (arith, a, b, c);
          goes_on = l.before;
          theirs = l.heard;
          stood = stays M laws v.sessions v.log log l.begins l.before l.lawful (λ q h. l.stood q h (has_left q v.sessions u.sessions h));
          came = stays M laws u.sessions u.log log l.begins l.heard l.lawful (λ q h. l.came q h (has_right q v.sessions u.sessions h));
          parts = l.kept;
          taken = refl;
          reads = (refl, refl);
        }),
        (λ k h. subst (λ y. Holds (first_of y) k) (sym is) (held_after hands theirs k h)),
      )

  -- the first pass of a hall
  pub opened_pass : (z : TableId) (seat : Seat (Option P) (View E)) (hands : List (List (Option P))) → M.sound M.start → M.passes ≤ 128 → seat.table_id ≡ z → seat.me ≡ (first_view M.start M.passes, [])
      → length hands ≡ M.passes → EachHand (λ h. length h ≡ length M.start) hands → EachHand Empty hands → IsPass M z seat hands × (seat.me.0 ≡ first_view M.start M.passes)
  opened_pass z seat hands begins limit table me count places empties =
      let n = sessions_to-length M.passes in
      let none' : Empty (first_of hands) = each_first Empty hands empties nothing in
      let knows : Knows M seat.id (first_view M.start M.passes, []) (first_of hands) = record {
        none_out = refl;
        home = refl;
        live = refl;
        stages = replicate-length (length M.start) 0;
        begins = begins;
        few_hands = omega (arith, n, limit);
        sound = begins;
        lawful = tt;
        mine = refl;
        total = refl;
        distinct = sessions_to-distinct M.passes;
        room = refl;
        agrees = λ k p e. absurd (none' k (p, e));
        held = λ k h. absurd (none' k h);
        away = λ k h. zeros (length M.start) k;
        few = omega arith;
        budget = omega (arith, n);
        limit = limit;
        tied = record { within = λ q h. (above_to M.passes q h, below_to M.passes q h); named = tt; alone = λ q is h. tt };
        wide = replicate-length (length M.start) 0;
        no_bump = refl;
        claims = omega arith;
        imaged = λ k p is. absurd (omega (arith, is));
      } in (
        record {
          of = (table, subst (λ (x : Me (Option P) (View E)). Knows M seat.id x (first_of hands)) (sym me) knows, record { worn = λ k p ne e. absurd (none' k (p, e)); hot = λ k p is e. absurd (none' k (p, e)); drained = ap (λ (x : Me (Option P) (View E)). x.0.drained) me });
          count = count ∙ (sym n ∙ ap (λ (x : Me (Option P) (View E)). length x.0.sessions) (sym me));
          places = places;
          spares = each_spare Empty hands empties;
        },
        ap (λ (x : Me (Option P) (View E)). x.0) me,
      )
