-- The drops of prunings that are under way, by the events of a session or a worker.
use Rattle.std.proofs.Common.{◌≡◌, ℕ, ◌+◌, ◌≤◌, Bool, true, false, cond, ◌&&◌, nat_lt, List, [], ◌∷◌, ◌++◌, fold, length, map, None, sum_by, refl, sym, ap, ◌∙◌, subst, arith, append-nil, length-append}
use mathlib.Core.Logic.{inl, inr}
use Rattle.std.specs.List.{cons_option, filter_map, flat_map, list_all, list_any}
use Rattle.std.proofs.lemmas.Bool.Decides.{nat_tests}
use Rattle.std.proofs.lemmas.List.{length-map}
use Rattle.std.proofs.lemmas.List.Sums.{fold-append, sum_by-cons}
use Rattle.std.proofs.lemmas.Bool.{and_parts}
use Rattle.event_spec.specs.declared.event.Event.TheVariants as event
use Rattle.event_spec.specs.Effects.{CoreEvent}
use Rattle.event_spec.specs.Parts.{Shape, below, blocks_of, tables_of}
use Rattle.event_spec.specs.Replay.{reply_after}
use Rattle.event_spec.specs.Replies.{CoreReply}
use Rattle.workload_spec.specs.declared.command.Command.TheVariants as command
use Rattle.run_spec.specs.Asked.{at_all_blocks, events_of, oldest_told, prunes}
use Rattle.run_spec.specs.Calls.{Call, IsCall, is_memory, is_refused}
use Rattle.run_spec.specs.Occurrences.{Occurrence, events_in, replies_in}
use Rattle.run_spec.specs.Opened.{own_after}
use Rattle.run_spec.specs.Told.{dropped_told}
use Rattle.run_laws.specs.Calls.Upkeep.{AreReplied}

-- What is true is not false.
true_false : true ≡ false → ⊥
true_false e = cc

-- how many prunes came behind the last `oldest`, and what they dropped
pub record Way : Type 0 where
  pub prunes : ℕ
  pub drops : ℕ

-- an `oldest` begins anew, and a prune is one more with its drops
abbrev pub goes_on : Way → CoreEvent → CoreReply → Way
goes_on way event.Oldest told = record { prunes = 0; drops = 0 }
goes_on way (event.Prune table block oldest) told = record { prunes = way.prunes + 1; drops = way.drops + dropped_told told }
goes_on way _ told = way

-- the way behind these events
abbrev pub way_behind : Way → List Occurrence → Way
way_behind way os = fold (λ way (o : Occurrence). goes_on way o.event o.reply) way os

-- the way behind all events from the start
abbrev pub way_of : List Occurrence → Way
way_of os = way_behind (record { prunes = 0; drops = 0 }) os

-- how many blocks a pruning prunes
abbrev pub all_blocks : Shape → ℕ
all_blocks shape = length (at_all_blocks shape event.Observe)

-- what is dropped and not told: a pruning is told with its last block
abbrev pub untold : ℕ → Way → ℕ
untold blocks way = cond (nat_lt way.prunes blocks) way.drops 0

-- the last event goes on from those before it
pub way_last : (os : List Occurrence) (o : Occurrence) → way_of (os ++ o ∷ []) ≡ goes_on (way_of os) o.event o.reply
way_last os o = fold-append (λ way (o : Occurrence). goes_on way o.event o.reply) (record { prunes = 0; drops = 0 }) os (o ∷ [])

-- how many entries a prune drops, 0 for any other event
abbrev pub dropped_at : CoreEvent → CoreReply → ℕ
dropped_at (event.Prune table block oldest) told = dropped_told told
dropped_at _ told = 0

-- A choice between zero and zero is at most any number.
cut : (b : Bool) (m n : ℕ) → cond b 0 0 ≤ n
cut true m n = omega arith
cut false m n = omega arith

-- An event leaves no more untold than it drops.
pub untold_rises : (blocks : ℕ) (way : Way) (e : CoreEvent) (told : CoreReply) → untold blocks (goes_on way e told) ≤ untold blocks way + dropped_at e told
untold_rises blocks way event.Oldest told = cut (nat_lt 0 blocks) 0 (untold blocks way + 0)
untold_rises blocks way (event.Prune table block oldest) told = go (nat_lt (way.prunes + 1) blocks) (nat_lt way.prunes blocks) refl refl
  where
    go : (a b : Bool) → nat_lt (way.prunes + 1) blocks ≡ a → nat_lt way.prunes blocks ≡ b → cond a (way.drops + dropped_told told) 0 ≤ cond b way.drops 0 + dropped_told told
    go false b e f = omega arith
    go true true e f = omega arith
    go true false e f = absurd (let never : ⊥ = grind (arith, nat_tests, e, f) in never)
untold_rises blocks way (event.Begin session) told = omega arith
untold_rises blocks way (event.Get own table key) told = omega arith
untold_rises blocks way (event.Insert own table row) told = omega arith
untold_rises blocks way (event.Update own table row) told = omega arith
untold_rises blocks way (event.Delete own table key) told = omega arith
untold_rises blocks way (event.Read own table block) told = omega arith
untold_rises blocks way (event.Range own table low high) told = omega arith
untold_rises blocks way (event.Commit own reads) told = omega arith
untold_rises blocks way (event.Abort own) told = omega arith
untold_rises blocks way (event.Observe table block) told = omega arith
untold_rises blocks way (event.Look table block) told = omega arith
untold_rises blocks way (event.Move table moves) told = omega arith
untold_rises blocks way (event.Seal table block) told = omega arith
untold_rises blocks way (event.Image table block image) told = omega arith
untold_rises blocks way (event.Thaw table block) told = omega arith

-- ---- the events of a pruning

-- The event is the prune of one block.
abbrev is_prune : CoreEvent → Bool
is_prune (event.Prune table block oldest) = true
is_prune _ = false

-- the event is of a pruning: an `oldest` or a prune
abbrev pub is_pruning : CoreEvent → Bool
is_pruning event.Oldest = true
is_pruning (event.Prune table block oldest) = true
is_pruning _ = false

-- Events that are all prunes are all events of a pruning.
as_pruning : (es : List CoreEvent) → list_all is_prune es ≡ true → list_all is_pruning es ≡ true
as_pruning [] all = refl
as_pruning (event.Prune t b n ∷ es) all = as_pruning es all
as_pruning (event.Begin session ∷ es) all = absurd (true_false (sym all))
as_pruning (event.Get own table key ∷ es) all = absurd (true_false (sym all))
as_pruning (event.Insert own table row ∷ es) all = absurd (true_false (sym all))
as_pruning (event.Update own table row ∷ es) all = absurd (true_false (sym all))
as_pruning (event.Delete own table key ∷ es) all = absurd (true_false (sym all))
as_pruning (event.Read own table block ∷ es) all = absurd (true_false (sym all))
as_pruning (event.Range own table low high ∷ es) all = absurd (true_false (sym all))
as_pruning (event.Commit own reads ∷ es) all = absurd (true_false (sym all))
as_pruning (event.Abort own ∷ es) all = absurd (true_false (sym all))
as_pruning (event.Oldest ∷ es) all = absurd (true_false (sym all))
as_pruning (event.Observe table block ∷ es) all = absurd (true_false (sym all))
as_pruning (event.Look table block ∷ es) all = absurd (true_false (sym all))
as_pruning (event.Move table moves ∷ es) all = absurd (true_false (sym all))
as_pruning (event.Seal table block ∷ es) all = absurd (true_false (sym all))
as_pruning (event.Image table block image ∷ es) all = absurd (true_false (sym all))
as_pruning (event.Thaw table block ∷ es) all = absurd (true_false (sym all))

record IsPrune (e : CoreEvent) : Type 0 where
  table : ℕ
  block : ℕ
  oldest : ℕ
  is : e ≡ event.Prune table block oldest

-- An event that is tested to be a prune is one of some block.
the_prune : (e : CoreEvent) → is_prune e ≡ true → IsPrune e
the_prune (event.Prune t b n) all = record { table = t; block = b; oldest = n; is = refl }
the_prune (event.Begin session) all = absurd (true_false (sym all))
the_prune (event.Get own table key) all = absurd (true_false (sym all))
the_prune (event.Insert own table row) all = absurd (true_false (sym all))
the_prune (event.Update own table row) all = absurd (true_false (sym all))
the_prune (event.Delete own table key) all = absurd (true_false (sym all))
the_prune (event.Read own table block) all = absurd (true_false (sym all))
the_prune (event.Range own table low high) all = absurd (true_false (sym all))
the_prune (event.Commit own reads) all = absurd (true_false (sym all))
the_prune (event.Abort own) all = absurd (true_false (sym all))
the_prune event.Oldest all = absurd (true_false (sym all))
the_prune (event.Observe table block) all = absurd (true_false (sym all))
the_prune (event.Look table block) all = absurd (true_false (sym all))
the_prune (event.Move table moves) all = absurd (true_false (sym all))
the_prune (event.Seal table block) all = absurd (true_false (sym all))
the_prune (event.Image table block image) all = absurd (true_false (sym all))
the_prune (event.Thaw table block) all = absurd (true_false (sym all))

-- behind prunes alone
prunes_on : (os : List Occurrence) (way : Way) → list_all is_prune (events_in os) ≡ true
    → ((way_behind way os).prunes ≡ way.prunes + length os) × ((way_behind way os).drops ≡ way.drops + sum_by dropped_told (replies_in os))
prunes_on [] way all = (omega arith, omega arith)
prunes_on (o ∷ os) way all =
    let both = and_parts (is_prune o.event) (list_all is_prune (events_in os)) all in
    let p = the_prune o.event both.0 in
    let same : goes_on way o.event o.reply ≡ record { prunes = way.prunes + 1; drops = way.drops + dropped_told o.reply } = ap (λ e. goes_on way e o.reply) p.is in
    let rest = prunes_on os (goes_on way o.event o.reply) both.1 in
    let a = rest.0 in let b = rest.1 in
    let c = ap (λ (w : Way). w.prunes) same in let d = ap (λ (w : Way). w.drops) same in
    let l = sum_by-cons dropped_told o.reply (replies_in os) in
    (omega (arith, a, c), omega (arith, b, d, l))

-- Two lists of prunes are one together.
all_append : (xs ys : List CoreEvent) → list_all is_prune xs ≡ true → list_all is_prune ys ≡ true → list_all is_prune (xs ++ ys) ≡ true
all_append [] ys a b = b
all_append (x ∷ xs) ys a b =
    let both = and_parts (is_prune x) (list_all is_prune xs) a in
    ap (λ c. c && list_all is_prune (xs ++ ys)) both.0 ∙ all_append xs ys both.1 b

-- The prunes of some blocks of a table are all prunes.
at_blocks_all : (n t : ℕ) (bs : List ℕ) → list_all is_prune (map (λ b. event.Prune t b n) bs) ≡ true
at_blocks_all n t [] = refl
at_blocks_all n t (b ∷ bs) = at_blocks_all n t bs

-- The prunes of all blocks of some tables are all prunes.
at_tables_all : (shape : Shape) (n : ℕ) (ts : List ℕ) → list_all is_prune (flat_map (λ t. map (λ b. event.Prune t b n) (below (blocks_of shape t))) ts) ≡ true
at_tables_all shape n [] = refl
at_tables_all shape n (t ∷ ts) =
    all_append (map (λ b. event.Prune t b n) (below (blocks_of shape t))) (flat_map (λ t. map (λ b. event.Prune t b n) (below (blocks_of shape t))) ts)
    (at_blocks_all n t (below (blocks_of shape t))) (at_tables_all shape n ts)

-- The prunes of all blocks up to some oldest stamps are all prunes.
at_oldests_all : (shape : Shape) (ns : List ℕ) → list_all is_prune (flat_map (λ n. at_all_blocks shape (λ t b. event.Prune t b n)) ns) ≡ true
at_oldests_all shape [] = refl
at_oldests_all shape (n ∷ ns) =
    all_append (at_all_blocks shape (λ t b. event.Prune t b n)) (flat_map (λ n. at_all_blocks shape (λ t b. event.Prune t b n)) ns)
    (at_tables_all shape n (tables_of shape)) (at_oldests_all shape ns)

-- One event for each block makes as many events as another does.
as_long : (shape : Shape) (f g : ℕ → ℕ → CoreEvent) (ts : List ℕ)
    → length (flat_map (λ t. map (f t) (below (blocks_of shape t))) ts) ≡ length (flat_map (λ t. map (g t) (below (blocks_of shape t))) ts)
as_long shape f g [] = refl
as_long shape f g (t ∷ ts) =
    let a = length-append (map (f t) (below (blocks_of shape t))) (flat_map (λ t. map (f t) (below (blocks_of shape t))) ts) in
    let b = length-append (map (g t) (below (blocks_of shape t))) (flat_map (λ t. map (g t) (below (blocks_of shape t))) ts) in
    let c = length-map (below (blocks_of shape t)) (f t) in let d = length-map (below (blocks_of shape t)) (g t) in
    let rest = as_long shape f g ts in
    omega (arith, a, b, c, d, rest)

-- No prune is replied an oldest stamp.
no_oldest : (shape : Shape) (os : List Occurrence) → AreReplied shape os → list_all is_prune (events_in os) ≡ true → filter_map oldest_told (replies_in os) ≡ []
no_oldest shape [] replied all = refl
no_oldest shape (o ∷ os) replied all =
    let both = and_parts (is_prune o.event) (list_all is_prune (events_in os)) all in
    let p = the_prune o.event both.0 in
    let none = go replied.0.0 p.table p.block p.oldest (replied.0.1 ∙ ap (λ e. reply_after shape o.before (record { event = e; refused = replied.0.0 })) p.is) in
    ap (λ x. cons_option x (filter_map oldest_told (replies_in os))) none ∙ no_oldest shape os replied.1 both.1
  where
    go : (refused : Bool) (t b n : ℕ) → o.reply ≡ reply_after shape o.before (record { event = event.Prune t b n; refused = refused }) → oldest_told o.reply ≡ None
    go true t b n e = ap oldest_told e
    go false t b n e = ap oldest_told e

-- There are as many events as occurrences.
events_long : (os : List Occurrence) → length (events_in os) ≡ length os
events_long os = length-map os (λ (o : Occurrence). o.event)

-- Where a disjunction is false, its first part is.
or_first : (a b : Bool) → (Rattle.std.proofs.Common.◌||◌ a b) ≡ false → a ≡ false
or_first true b e = absurd (true_false e)
or_first false b e = refl

-- Lists of events that are equal have the same first event.
head_is : (x y : CoreEvent) (xs ys : List CoreEvent) → x ∷ xs ≡ y ∷ ys → x ≡ y
head_is x y xs ys e = cc

-- Lists of events that are equal have the same events behind the first.
tail_is : (x y : CoreEvent) (xs ys : List CoreEvent) → x ∷ xs ≡ y ∷ ys → xs ≡ ys
tail_is x y xs ys e = cc

-- A pruning prunes each block, and tells what it dropped.
pub record Prunes (shape : Shape) (began made : List Occurrence) : Type 0 where
  pub blocks : (way_of (began ++ made)).prunes ≡ all_blocks shape
  pub drops : (way_of (began ++ made)).drops ≡ sum_by dropped_told (replies_in made)
  pub pruning : list_all is_pruning (events_in made) ≡ true

-- A pruning whose events were all granted prunes each block and tells what it dropped.
prunes_made : (shape : Shape) (began made : List Occurrence) → events_in made ≡ event.Oldest ∷ prunes shape made → list_any is_refused made ≡ false → AreReplied shape made
    → Prunes shape began made
prunes_made shape began [] events granted replied = absurd (let never : ⊥ = cc events in never)
prunes_made shape began (x ∷ rest) events granted replied = go replied.0.0 (replied.0.1 ∙ ap (λ e. reply_after shape x.before (record { event = e; refused = replied.0.0 })) first)
  where
    first : x.event ≡ event.Oldest
    first = head_is x.event event.Oldest (events_in rest) (prunes shape (x ∷ rest)) events

    behind : events_in rest ≡ prunes shape (x ∷ rest)
    behind = tail_is x.event event.Oldest (events_in rest) (prunes shape (x ∷ rest)) events

    all : list_all is_prune (events_in rest) ≡ true
    all = ap (list_all is_prune) behind ∙ at_oldests_all shape (filter_map oldest_told (replies_in (x ∷ rest)))

    none : filter_map oldest_told (replies_in rest) ≡ []
    none = no_oldest shape rest replied.1 all

    go : (refused : Bool) → x.reply ≡ reply_after shape x.before (record { event = event.Oldest; refused = refused }) → Prunes shape began (x ∷ rest)
    go true e = absurd (true_false (sym (ap is_memory e) ∙ or_first (is_refused x) (list_any is_refused rest) granted))
    go false e = record {
      blocks = ap (λ (w : Way). w.prunes) way ∙ omega (arith, w0, long);
      drops = ap (λ (w : Way). w.drops) way ∙ omega (arith, w1, sums, zero_told);
      pruning = ap (λ e. is_pruning e && list_all is_pruning (events_in rest)) first ∙ as_pruning (events_in rest) all;
    }
      where
        n : ℕ
        n = Rattle.txn_desk.specs.Oldest.oldest_of (Rattle.event_spec.specs.Parts.desk_at shape x.before)

        oldests : filter_map oldest_told (replies_in (x ∷ rest)) ≡ Rattle.txn_desk.specs.Oldest.oldest_of (Rattle.event_spec.specs.Parts.desk_at shape x.before) ∷ []
        oldests = ap (λ o. cons_option o (filter_map oldest_told (replies_in rest))) (ap oldest_told e)
            ∙ ap (λ ns. Rattle.txn_desk.specs.Oldest.oldest_of (Rattle.event_spec.specs.Parts.desk_at shape x.before) ∷ ns) none

        long : length rest ≡ all_blocks shape
        long = sym (events_long rest) ∙ ap length behind
            ∙ ap (λ ns. length (flat_map (λ n. at_all_blocks shape (λ t b. event.Prune t b n)) ns)) oldests
            ∙ ap length (append-nil (at_all_blocks shape (λ t b. event.Prune t b (Rattle.txn_desk.specs.Oldest.oldest_of (Rattle.event_spec.specs.Parts.desk_at shape x.before)))))
            ∙ as_long shape (λ t b. event.Prune t b (Rattle.txn_desk.specs.Oldest.oldest_of (Rattle.event_spec.specs.Parts.desk_at shape x.before))) event.Observe (tables_of shape)

        way : way_of (began ++ x ∷ rest) ≡ way_behind (record { prunes = 0; drops = 0 }) rest
        way = fold-append (λ way (o : Occurrence). goes_on way o.event o.reply) (record { prunes = 0; drops = 0 }) began (x ∷ rest)
            ∙ ap (λ e. way_behind (goes_on (way_of began) e x.reply) rest) first

        w0 : (way_behind (record { prunes = 0; drops = 0 }) rest).prunes ≡ 0 + length rest
        w0 = (prunes_on rest (record { prunes = 0; drops = 0 }) all).0

        w1 : (way_behind (record { prunes = 0; drops = 0 }) rest).drops ≡ 0 + sum_by dropped_told (replies_in rest)
        w1 = (prunes_on rest (record { prunes = 0; drops = 0 }) all).1

        sums : sum_by dropped_told (x.reply ∷ replies_in rest) ≡ dropped_told x.reply + sum_by dropped_told (replies_in rest)
        sums = sum_by-cons dropped_told x.reply (replies_in rest)

        zero_told : dropped_told x.reply ≡ 0
        zero_told = ap dropped_told e

-- a call that is asked to prune does a whole pruning
pub prune_calls : (shape : Shape) (worker : Bool) (session : ℕ) (began : List Occurrence) (call : Call) → IsCall shape worker session began call → AreReplied shape call.made → call.command ≡ command.Prune
    → Prunes shape began call.made
prune_calls shape worker session began call is replied asked =
    go (subst (λ c. Rattle.run_spec.specs.Calls.IsCallBy shape worker session (own_after began) (Rattle.run_spec.specs.Told.refusal_of c (own_after began)) call) asked is)
  where
    go : Rattle.run_spec.specs.Calls.IsCallBy shape worker session (own_after began) None call → Prunes shape began call.made
    go (inl whole) = prunes_made shape began call.made (whole.events ∙ ap (λ c. events_of shape (own_after began) call.reads session c call.made) asked) whole.granted replied
    go (inr part) = absurd (true_false (sym part.may ∙ ap Rattle.run_spec.specs.Calls.may_lack_memory asked))

-- at the last event of a pruning: all that was not told is told
pub told_last : (blocks count : ℕ) (way : Way) (e : CoreEvent) (told : CoreReply) → is_pruning e ≡ true
    → (goes_on way e told).prunes ≡ blocks → (goes_on way e told).drops ≡ count
    → untold blocks (goes_on way e told) + count ≤ untold blocks way + dropped_at e told
told_last blocks count way event.Oldest told is all drops = let z = cut (nat_lt 0 blocks) 0 0 in omega (arith, z, drops)
told_last blocks count way (event.Prune table block oldest) told is all drops = go (nat_lt (way.prunes + 1) blocks) (nat_lt way.prunes blocks) refl refl
  where
    go : (a b : Bool) → nat_lt (way.prunes + 1) blocks ≡ a → nat_lt way.prunes blocks ≡ b → cond a (way.drops + dropped_told told) 0 + count ≤ cond b way.drops 0 + dropped_told told
    go false true e f = omega (arith, drops)
    go true b e f = absurd (let never : ⊥ = grind (arith, nat_tests, e, all) in never)
    go false false e f = absurd (let never : ⊥ = grind (arith, nat_tests, f, all) in never)
told_last blocks count way (event.Begin session) told is all drops = absurd (true_false (sym is))
told_last blocks count way (event.Get own table key) told is all drops = absurd (true_false (sym is))
told_last blocks count way (event.Insert own table row) told is all drops = absurd (true_false (sym is))
told_last blocks count way (event.Update own table row) told is all drops = absurd (true_false (sym is))
told_last blocks count way (event.Delete own table key) told is all drops = absurd (true_false (sym is))
told_last blocks count way (event.Read own table block) told is all drops = absurd (true_false (sym is))
told_last blocks count way (event.Range own table low high) told is all drops = absurd (true_false (sym is))
told_last blocks count way (event.Commit own reads) told is all drops = absurd (true_false (sym is))
told_last blocks count way (event.Abort own) told is all drops = absurd (true_false (sym is))
told_last blocks count way (event.Observe table block) told is all drops = absurd (true_false (sym is))
told_last blocks count way (event.Look table block) told is all drops = absurd (true_false (sym is))
told_last blocks count way (event.Move table moves) told is all drops = absurd (true_false (sym is))
told_last blocks count way (event.Seal table block) told is all drops = absurd (true_false (sym is))
told_last blocks count way (event.Image table block image) told is all drops = absurd (true_false (sym is))
told_last blocks count way (event.Thaw table block) told is all drops = absurd (true_false (sym is))

-- of a list of a pruning's events, the last is one
pub last_pruning : (done : List Occurrence) (o : Occurrence) → list_all is_pruning (events_in (done ++ o ∷ [])) ≡ true → is_pruning o.event ≡ true
last_pruning [] o all = (and_parts (is_pruning o.event) true all).0
last_pruning (x ∷ done) o all = last_pruning done o (and_parts (is_pruning x.event) (list_all is_pruning (events_in (done ++ o ∷ []))) all).1
