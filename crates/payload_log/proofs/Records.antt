-- What a crash leaves of a log in each of the two steps of a record.
use Rattle.std.proofs.Common.{◌≡◌, ◌≢◌, inl, inr, ℕ, ◌+◌, ◌^◌, ◌<◌, List, [], ◌∷◌, ◌++◌, map}
use Rattle.std.proofs.Common.{length, refl, sym, ◌∙◌, ap, subst, arith, append_assoc}
use Rattle.std.proofs.Common.{length-append}
use Rattle.std.proofs.lemmas.List.{append-nil, map-append}
use Rattle.std.proofs.lemmas.Grind.{flat_map-append}
use Rattle.std.specs.List.{AllByRecursion, flat_map}
use Rattle.std.proofs.lemmas.Bool.{cases_eq}
use Rattle.disk_ports.specs.FileSteps.{Lays, Tears}
use Rattle.log_spec.specs.LogText.{Record, IsOpen, IsLogAt, sized, record_text, front_text, magic}
use Rattle.payload_log.specs.Logs.{IsLog, IsBeforeOrAfter}
use Rattle.payload_log.proofs.Gates as gates

pub open_push : (rs : List Record) (r : Record) → AllByRecursion IsOpen rs → IsOpen r
    → AllByRecursion IsOpen (rs ++ r ∷ [])
open_push [] r all open' = (open', tt)
open_push (x ∷ rs) r all open' = (all.0, open_push rs r all.1 open')

pub front_push : (rs : List Record) (r : Record) → front_text (rs ++ r ∷ [])
    ≡ front_text rs ++ record_text r
front_push rs r =
    ap (λ (l : List ℕ). magic ++ l)
    (flat_map-append record_text rs (r ∷ [])
    ∙ ap (λ (l : List ℕ). flat_map record_text rs ++ l) (append-nil (record_text r)))
    ∙ sym (append_assoc magic (flat_map record_text rs) (record_text r))

-- a log whose front is known by its length alone
record Front (payloads : List (List ℕ)) (gate : ℕ) (front : List ℕ) : Type 0 where
  records : List Record
  same : map (λ (r : Record). r.payload) records ≡ payloads
  are_open : AllByRecursion IsOpen records
  front_is : front ≡ front_text records
  place : length front ≡ gate

front_of : (payloads : List (List ℕ)) (gate : ℕ) (bytes : List ℕ)
    (log : IsLogAt payloads gate bytes) → Front payloads gate (front_text log.records)
front_of payloads gate bytes log = record {
  records = log.records;
  same = log.same;
  are_open = log.are_open;
  front_is = refl;
  place = log.place;
}

still : (payloads : List (List ℕ)) (gate : ℕ) (front rest c : List ℕ) → Front payloads gate front
    → c ≡ front ++ 0 ∷ rest → IsLogAt payloads gate c
still payloads gate front rest c f is = record {
  records = f.records;
  behind = rest;
  same = f.same;
  are_open = f.are_open;
  place = sym (ap length f.front_is) ∙ f.place;
  is = is ∙ ap (λ (l : List ℕ). l ++ 0 ∷ rest) f.front_is;
}

-- behind an open gate the record counts, and its closed gate ends the log
one_more : (payloads : List (List ℕ)) (gate : ℕ) (front : List ℕ) → Front payloads gate front
    → (payload body : List ℕ) → body ≡ sized payload → length payload < 2 ^ 32
    → (g : ℕ) → g ≢ 0 → (rest c : List ℕ) → c ≡ front ++ g ∷ (body ++ 0 ∷ rest)
    → IsLogAt (payloads ++ payload ∷ []) (gate + length (body ++ 0 ∷ [])) c
one_more payloads gate front f payload body body_is short g open' rest c is =
    let r : Record = record { gate = g; payload = payload } in
    let text : front_text (f.records ++ r ∷ []) ≡ front ++ g ∷ body =
    front_push f.records r ∙ ap (λ (l : List ℕ). l ++ record_text r) (sym f.front_is)
    ∙ ap (λ (l : List ℕ). front ++ g ∷ l) (sym body_is) in
    record {
      records = f.records ++ r ∷ [];
      behind = rest;
      same = map-append (λ (x : Record). x.payload) f.records (r ∷ [])
          ∙ ap (λ (l : List (List ℕ)). l ++ payload ∷ []) f.same;
      are_open = open_push f.records r f.are_open (record { gate = open'; short = short });
      place = ap length text
          ∙ omega (arith, length-append front (g ∷ body), length-append body (0 ∷ []), f.place);
      is = is ∙ sym (append_assoc front (g ∷ body) (0 ∷ rest))
          ∙ ap (λ (l : List ℕ). l ++ 0 ∷ rest) (sym text);
    }

module _ (payloads : List (List ℕ)) (payload piece : List ℕ) (gate : ℕ) (bytes : List ℕ)
    (log : IsLogAt payloads gate bytes) (piece_is : piece ≡ sized payload ++ 0 ∷ [])
    (short : length payload < 2 ^ 32) where
  abbrev front : List ℕ
  front = front_text log.records

  known : Front payloads gate (front_text log.records)
  known = front_of payloads gate bytes log

  -- the closed gate stands in each outcome of the first write
  pub torn_behind : (count : ℕ) (c : List ℕ) → Tears (gate + 1) count bytes c → IsLog payloads c
  torn_behind count c torn =
      let found = gates.torn_behind (front_text log.records) log.behind gate log.place count c
      (subst (λ b. Tears (gate + 1) count b c) log.is torn) in
      (gate, still payloads gate (front_text log.records) found.0 c known found.1)

  -- the file with the record behind the closed gate
  pub record Staged (c : List ℕ) : Type 0 where
    pub rest : List ℕ
    pub is : c ≡ front_text log.records ++ 0 ∷ (sized payload ++ 0 ∷ rest)

  pub laid_behind : (c : List ℕ) → Lays (gate + 1) piece bytes c → Staged c
  laid_behind c laid =
      let found = gates.laid_behind (front_text log.records) log.behind gate log.place piece c
      (subst (λ b. Lays (gate + 1) piece b c) log.is laid) in
      record {
        rest = found.0;
        is = found.1
            ∙ ap (λ (l : List ℕ). front_text log.records ++ 0 ∷ (l ++ found.0)) piece_is
            ∙ ap (λ (l : List ℕ). front_text log.records ++ 0 ∷ l)
            (append_assoc (sized payload) (0 ∷ []) found.0);
      }

  -- the record stands whole in each outcome of the second write
  pub torn_gate : (file c : List ℕ) → Staged file → Tears gate 1 file c
      → IsBeforeOrAfter payloads payload c
  torn_gate file c staged torn =
      let rest = sized payload ++ 0 ∷ staged.rest in
      let found = gates.torn_gate (front_text log.records) rest gate log.place c
      (subst (λ b. Tears gate 1 b c) staged.is torn) in
      elim (cases_eq found.0 0) [
        | inl closed ↦ inl (
          gate,
          still payloads gate (front_text log.records) (rest ++ found.1) c
              known (found.2 ∙ ap (λ g. front_text log.records ++ g ∷ (rest ++ found.1)) closed),
        )
        | inr open' ↦ inr (
          gate + length (sized payload ++ 0 ∷ []),
          one_more payloads gate (front_text log.records) known payload (sized payload) refl short
              found.0 open' (staged.rest ++ found.1) c
              (found.2 ∙ ap (λ (l : List ℕ). front_text log.records ++ found.0 ∷ l)
              (append_assoc (sized payload) (0 ∷ staged.rest) found.1)),
        )
      ]

  -- and once the gate is open
  pub laid_gate : (file c : List ℕ) → Staged file → Lays gate (1 ∷ []) file c
      → IsLogAt (payloads ++ payload ∷ []) (gate + length piece) c
  laid_gate file c staged laid =
      let rest = sized payload ++ 0 ∷ staged.rest in
      let is = gates.laid_gate (front_text log.records) rest gate log.place c
      (subst (λ b. Lays gate (1 ∷ []) b c) staged.is laid) in
      subst (λ (p : List ℕ). IsLogAt (payloads ++ payload ∷ []) (gate + length p) c) (sym piece_is)
      (one_more payloads gate (front_text log.records) known payload (sized payload) refl short 1
      (omega arith) staged.rest c is)
