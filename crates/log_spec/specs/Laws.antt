-- What holds of all logs.
use Rattle.std.specs.Prelude.{◌≡◌, ℕ, List, All}
use Rattle.cell_model.specs.Schemas.{IsSchema}
use Rattle.cell_model.specs.declared.table.TableDecl.{TableDecl}
use Rattle.isolation_spec.specs.Contents.{History}
use Rattle.log_spec.specs.LogText.{IsLogAt, payload_text}
use Rattle.log_spec.specs.Reading.{Gives, IsGroupOf, IsNoLog}

-- Bytes are the log of one list of payloads at most.
abbrev pub OneLog : Type 0
OneLog = (payloads others : List (List ℕ)) (gate other : ℕ) (bytes : List ℕ)
    → IsLogAt payloads gate bytes → IsLogAt others other bytes
    → (payloads ≡ others) × (gate ≡ other)

-- each table's columns are a schema
abbrev pub HaveSchemas : List TableDecl → Type 0
HaveSchemas tables = All (λ table. IsSchema table.schema) tables

-- A payload is that of one list of commits at most.
abbrev pub OneGroup : Type 0
OneGroup = (tables : List TableDecl) (commits others : History) → HaveSchemas tables
    → IsGroupOf tables commits → IsGroupOf tables others
    → payload_text commits ≡ payload_text others → commits ≡ others

-- Bytes give one list of commits at most.
abbrev pub OneHistory : Type 0
OneHistory = (tables : List TableDecl) (bytes : List ℕ) (commits others : History)
    → HaveSchemas tables
    → Gives tables bytes commits → Gives tables bytes others → commits ≡ others

-- Bytes that are a log leave the form nowhere.
abbrev pub NeverBoth : Type 0
NeverBoth = (tables : List TableDecl) (bytes : List ℕ) (commits : History) (place : ℕ)
    → Gives tables bytes commits → IsNoLog tables bytes place → ⊥

-- Bytes that are none leave the form at one place.
abbrev pub OnePlace : Type 0
OnePlace = (tables : List TableDecl) (bytes : List ℕ) (place other : ℕ)
    → IsNoLog tables bytes place → IsNoLog tables bytes other → place ≡ other
