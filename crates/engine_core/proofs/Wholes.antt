-- A hand that has every part.
use Rattle.std.proofs.Common.{◌≡◌, ℕ, zero, suc, ◌<◌, ◌≤◌, Bool, true, false, MatchBool, cond, ℤ, ◌^◌, List, [], ◌∷◌, Option, Some, length, refl, sym, ap, ◌∙◌, subst, arith}
use Rattle.std.specs.Prelude.{All, option_map, unwrap_or, slice_get}
use Rattle.std.proofs.lemmas.List.{length-map}
use Rattle.std.proofs.lemmas.List.Elements.{All-head, All-tail}
use Rattle.cell_model.specs.declared.table.TableDecl.{TableDecl}
use Rattle.core_parts.specs.Hands.{Has, Held, Makes, MayRun, after, hand_changed, in_hand}
use Rattle.engine_core.specs.Core.{IsOpening, IsWhole, MayOpen, is_memory, parts_in}
use Rattle.event_spec.specs.declared.reply.Reply.TheVariants as reply
use Rattle.event_spec.specs.Effects.{CoreEvent, changes_of, effect}
use Rattle.event_spec.specs.Lawful.{Among, HasBlock, HasTable, IsLawful}
use Rattle.event_spec.specs.Parts.{BodyOf, Changes, CorePart, Parts, Shape, ShardOf, Name, changed, each_changed, held_named, names, part_named, same_name, shard_of, slots_of}
use Rattle.event_spec.specs.Replay.{opening, rows_first}
use Rattle.event_spec.specs.Replay as replay
use Rattle.event_spec.specs.Replies.{CoreReply}
use Rattle.core_laws.proofs.Events.Naming.{at_name, body_named, shard_named}
use Rattle.core_laws.proofs.Events.Places.{shard_small}
use Rattle.event_spec.specs.Sound.{IsOfKind, IsShape}
use Rattle.core_laws.proofs.Frames.Reached.{core_kept, core_opens}
use Rattle.core_parts.specs.FirstRows.{HaveRoom, IsFirstFull}
use Rattle.isolation_spec.specs.Commits.{AreCommitsOf}
use Rattle.isolation_spec.specs.Contents.{History, rows_left}
use Rattle.core_laws.specs.Frames.Shards.{CoreHolds}
use Rattle.hall_rule.specs.Hands.{Agrees, Holds, all_in}

-- the parts in a hand that has all of a state are the state
pub in_all : (s : Parts) → parts_in (all_in s) ≡ s
in_all [] = refl
in_all (p ∷ s) = ap (λ (rest : Parts). p ∷ rest) (in_all s)

-- A hand that has all of a state holds each of its places.
holds_all : (s : Parts) (k : ℕ) → k < length s → Holds (all_in s) k
holds_all [] k less = absurd (omega (arith, less))
holds_all (p ∷ s) zero less = (p, refl)
holds_all (p ∷ s) (suc k) less = holds_all s k (omega (arith, less))

-- such a hand agrees with the state
pub agrees_all : (s : Parts) → Agrees (all_in s) s
agrees_all s = (length-map s Some, at s)
  where
    at : (s : Parts) (k : ℕ) (p : CorePart) → slice_get (all_in s) k ≡ Some (Some p) → slice_get s k ≡ Some p
    at [] k p is = cc
    at (q ∷ s) zero p is = let e : q ≡ p = cc in ap Some e
    at (q ∷ s) (suc k) p is = at s k p is

-- Changes of a hand that has all of a state are those of the state.
after_all : (c : Changes) (ns : List Name) (s : Parts) → hand_changed c ns (all_in s) ≡ all_in (each_changed c ns s)
after_all c [] s = refl
after_all c (n ∷ ns) [] = refl
after_all c (n ∷ ns) (p ∷ s) = ap (λ (hand : Held). Some (changed c n p) ∷ hand) (after_all c ns s)

-- A reply that is tested to refuse memory is that one.
memory_is : (said : CoreReply) → is_memory said ≡ true → said ≡ reply.Memory
memory_is reply.Memory e = refl
memory_is (reply.Begun snapshot) e = cc
memory_is (reply.Found row) e = cc
memory_is (reply.Written place) e = cc
memory_is (reply.Refused fault) e = cc
memory_is (reply.Rows rows) e = cc
memory_is (reply.Shared rows) e = cc
memory_is (reply.Committed number) e = cc
memory_is (reply.Stale what number) e = cc
memory_is reply.Aborted e = cc
memory_is (reply.Oldest stamp) e = cc
memory_is (reply.Turned turned) e = cc
memory_is (reply.Dropped count) e = cc
memory_is (reply.Looked look) e = cc
memory_is (reply.Moved count) e = cc
memory_is (reply.Sealed stamp) e = cc
memory_is (reply.NotSealed fault) e = cc
memory_is (reply.Imaged rows) e = cc
memory_is reply.NoSeal e = cc
memory_is reply.Thawed e = cc

-- In a hand that has all of a state the part of a name is the state's.
held_all : (ns : List Name) (s : Parts) (w : Name) → held_named ns (all_in s) w ≡ part_named ns s w
held_all [] s w = refl
held_all (n ∷ ns) [] w = refl
held_all (n ∷ ns) (p ∷ s) w = ap (λ (rest : Option CorePart). cond (same_name n w) (some_part p) rest) (held_all ns s w)
  where
    some_part : CorePart → Option CorePart
    some_part p = Some p

module _ (sh : Shape) (hand : Held) (whole : IsWhole sh hand) where
  -- a whole hand agrees with its parts
  pub agrees : Agrees hand (parts_in hand)
  agrees = subst (λ (h : Held). Agrees h (parts_in hand)) (sym whole.all) (agrees_all (parts_in hand))

  -- each of its places has its part
  pub holds_each : (k : ℕ) → k < length hand → Holds hand k
  holds_each k less = subst (λ (h : Held). Holds h k) (sym whole.all) (holds_all (parts_in hand) k (let e = agrees.0 in omega (arith, e, less)))

  -- each of the names has its part in it
  pub has_each : (w : Name) → Among w (names sh) → Has sh hand w
  has_each w a = subst (IsOfKind w) (sym (ap (λ (h : Held). in_hand sh h w) whole.all ∙ held_all (names sh) (parts_in hand) w)) (at_name sh (parts_in hand) whole.holds.sound.kinds w a)

  -- so has the body of each block
  pub has_its_body : (t b : ℕ) → HasBlock sh t b → Has sh hand (BodyOf t b)
  has_its_body t b has = has_each (BodyOf t b) (body_named sh t b has)

  -- and the shard of each key
  pub has_its_shard : (t : ℕ) (key : ℤ) → HasTable sh t → Has sh hand (ShardOf t (shard_of key))
  has_its_shard t key has = has_each (ShardOf t (shard_of key)) (shard_named sh t (shard_of key) has (shard_small key))

  -- a lawful event may run on it
  pub may_run : (e : CoreEvent) → IsLawful sh e (parts_in hand) → MayRun sh e hand
  may_run e lawful = record {
    covers = λ k less touched. holds_each k less;
    parts = parts_in hand;
    holds = whole.holds;
    agrees = agrees;
    lawful = lawful;
  }

  module _ (e : CoreEvent) (new : Held) (said : CoreReply) (lawful : IsLawful sh e (parts_in hand)) where
    made_all : Makes sh e hand new said → new ≡ all_in (effect sh (parts_in hand) e)
    made_all made =
        (made (parts_in hand) whole.holds agrees lawful).0
        ∙ ap (after sh (changes_of sh (parts_in hand) e)) whole.all
        ∙ after_all (changes_of sh (parts_in hand) e) (names sh) (parts_in hand)

    -- a whole hand is whole still behind an event
    pub goes_on : (refused : Bool) → MatchBool refused (new ≡ hand) (Makes sh e hand new said) → IsWhole sh new
    goes_on true same = subst (IsWhole sh) (sym same) whole
    goes_on false made = subst (IsWhole sh) (sym (made_all made)) (record {
      all = ap all_in (sym (in_all (effect sh (parts_in hand) e)));
      holds = subst (CoreHolds sh) (sym (in_all (effect sh (parts_in hand) e))) (core_kept sh e (parts_in hand) whole.holds lawful);
    })

    -- its parts are then those that the event's entry leaves
    pub parts_after : (refused : Bool) → MatchBool refused (new ≡ hand) (Makes sh e hand new said)
        → parts_in new ≡ replay.after sh (parts_in hand) (record { event = e; refused = refused })
    parts_after true same = ap parts_in same
    parts_after false made = ap parts_in (made_all made) ∙ in_all (effect sh (parts_in hand) e)

    -- and the reply is what the event is replied
    pub reply_after : (refused : Bool) → is_memory said ≡ refused → MatchBool refused (new ≡ hand) (Makes sh e hand new said)
        → said ≡ replay.reply_after sh (parts_in hand) (record { event = e; refused = refused })
    reply_after true is same = memory_is said is
    reply_after false is made = (made (parts_in hand) whole.holds agrees lawful).1

-- ---- the opening core

-- What holds of each declared table holds of the one with this number.
declared : (tables : List TableDecl) (P : ℕ → Type 0) (f : TableDecl → ℕ) → All (λ (table : TableDecl). P (f table)) tables
    → (t : ℕ) → t < length tables → P (unwrap_or (option_map f (slice_get tables t)) 0)
declared [] P f all t less = absurd (omega (arith, less))
declared (table ∷ tables) P f all zero less = All-head (λ (table : TableDecl). P (f table)) table tables all
declared (table ∷ tables) P f all (suc t) less = declared tables P f (All-tail (λ (table : TableDecl). P (f table)) table tables all) t (omega (arith, less))

-- each table of what a core may be made of has a slot in a block
pub has_slots : (sh : Shape) → MayOpen sh.tables sh.passes → (t : ℕ) → HasTable sh t → 1 ≤ slots_of sh t
has_slots sh may t has = declared sh.tables (λ n. 1 ≤ n) (λ (table : TableDecl). table.slots) may.slots t has

-- what a core may be made of is a shape, where its tables have room for what it begins with
pub shape_is : (sh : Shape) → MayOpen sh.tables sh.passes → AreCommitsOf sh.tables sh.first → length sh.first ≤ 2 ^ 63 → HaveRoom sh (length sh.tables) → IsShape sh
shape_is sh may commits few room = record {
  tables = may.few;
  blocks = λ t has. declared sh.tables (λ n. 1 ≤ n) (λ (table : TableDecl). table.blocks) may.blocks t has;
  slots = λ t has. (
    has_slots sh may t has,
    declared sh.tables (λ n. n ≤ 2 ^ 15) (λ (table : TableDecl). table.slots) may.size.slots_few t has,
  );
  commits = commits;
  few = few;
  room = room;
}

-- the hand of an opening core is whole
pub opening_whole : (sh : Shape) (hand : Held) → IsShape sh → hand ≡ all_in (opening sh) → IsWhole sh hand
opening_whole sh hand shape is = subst (IsWhole sh) (sym is) (record {
  all = ap all_in (sym (in_all (opening sh)));
  holds = subst (CoreHolds sh) (sym (in_all (opening sh))) (core_opens sh shape);
})

-- no event was made on the parts of an opening hand
pub opening_is : (sh : Shape) (hand : Held) → IsShape sh → hand ≡ all_in (opening sh) → IsOpening sh (parts_in hand)
opening_is sh hand shape is = record { measures = shape; parts_are = ap parts_in is ∙ in_all (opening sh) }

-- a core that begins with no commit has room for all its rows
pub never_full : (sh : Shape) (t : ℕ) → sh.first ≡ [] → IsFirstFull sh t → ⊥
never_full sh t none full = let more = full.more in let rows : length (rows_first sh t) ≡ 0 = ap (λ (first : History). length (rows_left first t)) none in absurd (omega (arith, more, rows))
