-- Where the replies of a part stand among those of the others.
use Rattle.std.proofs.Common.{◌≡◌, inl, inr, ◌+◌, ◌*◌, ◌<◌, ◌≤◌, List, [], ◌∷◌, ◌++◌, refl, sym, ap, ◌∙◌, subst, arith, append_assoc}
use Rattle.outcome_spec.specs.Entries.{Entry}
use Rattle.bench_laws.proofs.Every.{Every, Has, every-append, every-right, has-right, has-left}
use Rattle.bench_laws.proofs.Parts.{Part, Writing, Keeping, Freezing, Wrote, InTurn, From, entries_in, entries_of, wrotes, replies_to}

-- the replies of more parts stand behind those of the first
pub entries-append : (front rest : List Part) → entries_in (front ++ rest) ≡ entries_in front ++ entries_in rest
entries-append [] rest = refl
entries-append (part ∷ front) rest = ap (λ es. entries_of part ++ es) (entries-append front rest) ∙ sym (append_assoc (entries_of part) (entries_in front) (entries_in rest))

-- the parts about a transaction
pub record About (w : Wrote) (parts : List Part) : Type 0 where
  pub front : List Part
  pub rest : List Part
  pub whole : parts ≡ front ++ Writing w ∷ rest

-- Where a transaction stands among some parts, with one part more in front.
about-more : (w : Wrote) (part : Part) (parts : List Part) → About w parts → About w (part ∷ parts)
about-more w part parts h = record { front = part ∷ h.front; rest = h.rest; whole = ap (λ ps. part ∷ ps) h.whole }

-- a transaction stands between the parts in front of it and those behind it
pub about : (w : Wrote) (parts : List Part) → Has w (wrotes parts) → About w parts
about w [] h = absurd h
about w (Writing v ∷ parts) (inl same) = record { front = []; rest = parts; whole = ap (λ x. Writing x ∷ parts) same }
about w (Writing v ∷ parts) (inr rest) = about-more w (Writing v) parts (about w parts rest)
about w (Keeping k ∷ parts) h = about-more w (Keeping k) parts (about w parts h)
about w (Freezing f ∷ parts) h = about-more w (Freezing f) parts (about w parts h)

-- the transactions of more parts stand behind those of the first
pub wrotes-append : (front rest : List Part) → wrotes (front ++ rest) ≡ wrotes front ++ wrotes rest
wrotes-append [] rest = refl
wrotes-append (Writing w ∷ front) rest = ap (λ ws. w ∷ ws) (wrotes-append front rest)
wrotes-append (Keeping k ∷ front) rest = wrotes-append front rest
wrotes-append (Freezing f ∷ front) rest = wrotes-append front rest

-- what holds of each part that is a transaction
pub every-wrote : (P : Wrote → Type 0) (Q : Part → Type 0) → ((w : Wrote) → Q (Writing w) → P w) → (parts : List Part) → Every Q parts → Every P (wrotes parts)
every-wrote P Q so [] h = tt
every-wrote P Q so (Writing w ∷ parts) h = (so w h.0, every-wrote P Q so parts h.1)
every-wrote P Q so (Keeping k ∷ parts) h = every-wrote P Q so parts h.1
every-wrote P Q so (Freezing f ∷ parts) h = every-wrote P Q so parts h.1

-- the part stands before the transaction
abbrev pub Before : Wrote → Part → Type 0
Before w (Writing v) = (4 * v.round + v.session < 4 * w.round + w.session) × (4 * v.turn + v.session < 4 * w.turn + w.session)
Before w (Keeping k) = k.round < w.round
Before w (Freezing f) = f.round < w.round

-- Where parts are in turn, one of them with those behind it is in turn.
turn-rest : (front : List Part) (part : Part) (rest : List Part) → InTurn (front ++ part ∷ rest) → InTurn (part ∷ rest)
turn-rest [] part rest h = h
turn-rest (Writing w ∷ front) part rest h = turn-rest front part rest h.1
turn-rest (Keeping k ∷ front) part rest h = turn-rest front part rest h.1
turn-rest (Freezing f ∷ front) part rest h = turn-rest front part rest h.1

-- the parts behind a transaction are of places behind it
pub in-turn-rest : (front : List Part) (w : Wrote) (rest : List Part) → InTurn (front ++ Writing w ∷ rest)
    → Every (From (w.round + 1) (4 * w.round + w.session + 1) (4 * w.turn + w.session + 1)) rest
in-turn-rest front w rest h = (turn-rest front (Writing w) rest h).0

-- What holds of each part holds of one with parts in front of it and behind.
at-behind : (P : Part → Type 0) (front : List Part) (part : Part) (rest : List Part) → Every P (front ++ part ∷ rest) → P part
at-behind P front part rest h = (every-right P front (part ∷ rest) h).0

-- the parts in front of it are before it
pub in-turn-front : (front : List Part) (w : Wrote) (rest : List Part) → InTurn (front ++ Writing w ∷ rest) → w.session ≤ 4 → Every (Before w) front
in-turn-front [] w rest h high = tt
in-turn-front (Writing v ∷ front) w rest h high =
    let f = at-behind (From (v.round + 1) (4 * v.round + v.session + 1) (4 * v.turn + v.session + 1)) front (Writing w) rest h.0 in
    ((let e = f.0 in omega (arith, e), let e = f.1 in omega (arith, e)), in-turn-front front w rest h.1 high)
in-turn-front (Keeping k ∷ front) w rest h high =
    let f = at-behind (From k.round (4 * (k.round + 1) + 1) 0) front (Writing w) rest h.0 in
    (let e = f.0 in omega (arith, e, high), in-turn-front front w rest h.1 high)
in-turn-front (Freezing x ∷ front) w rest h high =
    let f = at-behind (From x.round (4 * (x.round + 1) + 1) 0) front (Writing w) rest h.0 in
    (let e = f.0 in omega (arith, e, high), in-turn-front front w rest h.1 high)

-- of two facts of each part
pub every-two : (P Q : Part → Type 0) (R : Entry → Type 0) → ((part : Part) → P part → Q part → Every R (entries_of part)) → (parts : List Part) → Every P parts → Every Q parts → Every R (entries_in parts)
every-two P Q R so [] h k = tt
every-two P Q R so (part ∷ parts) h k = every-append R (entries_of part) (entries_in parts) (so part h.0 k.0) (every-two P Q R so parts h.1 k.1)

-- the replies of a transaction are among those of the parts
pub has-reply : (w : Wrote) (e : Entry) (parts : List Part) → Has w (wrotes parts) → Has e (replies_to w) → Has e (entries_in parts)
has-reply w e [] h k = absurd h
has-reply w e (Writing v ∷ parts) (inl same) k = has-left e (replies_to v) (entries_in parts) (subst (λ x. Has e (replies_to x)) (sym same) k)
has-reply w e (Writing v ∷ parts) (inr rest) k = has-right e (replies_to v) (entries_in parts) (has-reply w e parts rest k)
has-reply w e (Keeping x ∷ parts) h k = inr (has-reply w e parts h k)
has-reply w e (Freezing x ∷ parts) h k = inr (inr (has-reply w e parts h k))
