-- That bytes have one reading.
use Rattle.std.proofs.Common.{◌≡◌, inl, inr, ℕ, ◌≤◌, List, [], ◌∷◌, ◌++◌, map, length, take, drop}
use Rattle.std.proofs.Common.{refl, sym, ◌∙◌, ap, subst, arith, append_assoc, length-append}
use Rattle.std.proofs.Common.{take-append-drop}
use Rattle.std.proofs.lemmas.List.{length-take, take_at}
use Rattle.std.specs.List.{flat_map}
use Rattle.cell_model.specs.declared.table.TableDecl.{TableDecl}
use Rattle.isolation_spec.specs.Contents.{History}
use Rattle.log_spec.specs.Laws.{HaveSchemas}
use Rattle.log_spec.specs.LogText.{front_text, magic, payload_text, record_text}
use Rattle.log_spec.specs.Reading.{IsLogOf}
use Rattle.log_spec.proofs.Unique.{never_both, one_history, one_log, one_place}
use Rattle.commit_log.specs.Laws.{OneReading}
use Rattle.commit_log.specs.Readings.{GivesBefore}
use Rattle.commit_log.specs.declared.reading.LogEnd.TheVariants.{Broken, Closed}

-- where bytes up to a place are a log with a closed gate behind them, they begin as one
begins_so : (tables : List TableDecl) (bytes : List ℕ) (place : ℕ) (commits : History)
    → IsLogOf tables commits place (take place bytes ++ 0 ∷ []) → take 8 bytes ≡ magic
begins_so tables bytes place commits given =
    let front = front_text given.log.records in
    let rest = flat_map record_text given.log.records in
    let long : place ≤ length bytes =
    omega (
      arith,
      ap length given.log.is,
      length-append (take place bytes) (0 ∷ []),
      length-append front (0 ∷ given.log.behind),
      given.log.place,
      length-take place bytes,
    ) in
    let size : length (take place bytes) ≡ place = omega (arith, length-take place bytes, long) in
    let same : take place bytes ≡ front =
    sym (take_at (take place bytes) (0 ∷ []) place size)
    ∙ ap (take place) given.log.is
    ∙ take_at front (0 ∷ given.log.behind) place given.log.place in
    ap (take 8)
    (sym (take-append-drop place bytes)
    ∙ ap (λ (l : List ℕ). l ++ drop place bytes) same
    ∙ append_assoc magic rest (drop place bytes))
    ∙ take_at magic (rest ++ drop place bytes) 8 refl

-- the commits in front of a place are those of one list at most
one_before : (tables : List TableDecl) (bytes : List ℕ) (commits others : History) (place other : ℕ)
    → HaveSchemas tables → place ≡ other → GivesBefore tables bytes place commits
    → GivesBefore tables bytes other others → commits ≡ others
one_before tables bytes commits others place other schemas same (inl none) (inl gone) =
    none.1 ∙ sym gone.1
one_before tables bytes commits others place other schemas same (inl none) (inr log) =
    absurd (none.0 (begins_so tables bytes other others log))
one_before tables bytes commits others place other schemas same (inr log) (inl none) =
    absurd (none.0 (begins_so tables bytes place commits log))
one_before tables bytes commits others place other schemas same (inr log) (inr log') =
    one_history tables (take place bytes ++ 0 ∷ []) commits others schemas (place, log) (
      other,
      subst (λ k. IsLogOf tables others other (take k bytes ++ 0 ∷ [])) (sym same) log',
    )

pub one_reading : OneReading
one_reading tables bytes commits others (Closed gate) (Closed next) schemas a b = (
  one_history tables bytes commits others schemas (gate, a) (next, b),
  ap (λ g. Closed g) (one_log (map payload_text a.groups) (map payload_text b.groups) gate next bytes
      a.log b.log).1,
)
one_reading tables bytes commits others (Closed gate) (Broken place) schemas a b =
    absurd (never_both tables bytes commits place (gate, a) b.0)
one_reading tables bytes commits others (Broken place) (Closed gate) schemas a b =
    absurd (never_both tables bytes others place (gate, b) a.0)
one_reading tables bytes commits others (Broken place) (Broken other) schemas a b =
    let same = one_place tables bytes place other a.0 b.0 in (
      one_before tables bytes commits others place other schemas same a.1 b.1,
      ap (λ p. Broken p) same,
    )
