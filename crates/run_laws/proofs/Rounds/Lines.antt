-- How the lines of a run grow.
use Rattle.std.proofs.Common.{◌≡◌, ℕ, ◌+◌, List, [], ◌∷◌, ◌++◌, map, length, Option, None, Some, sym, ap, ◌∙◌, append-nil, arith}
use Rattle.std.specs.List.{cons_option, enumerate_from, flat_map}
use Rattle.std.proofs.lemmas.Grind.{flat_map-append}
use Rattle.std.proofs.lemmas.List.{map-append}
use Rattle.std.proofs.lemmas.List.Elements.{filter_map-append}
use Rattle.cell_model.specs.declared.table.TableDecl.{TableDecl}
use Rattle.workload_spec.specs.ReplyText.{replies_text, reply_text}
use Rattle.workload_spec.specs.declared.reply.ReplyLine.{ReplyLine}
use Rattle.workload_spec.specs.declared.reply.Said.{Said}
use Rattle.workload_spec.specs.declared.reply.Who.{Who}
use Rattle.run_spec.specs.Calls.{Call}
use Rattle.run_spec.specs.Ran.{RoundRun}
use Rattle.run_laws.specs.Rounds.Lines.{RoundsGrow, SharesGrow, line_behind, line_of, lines_told, round_text, told_by}

-- two lists in a row, numbered on
pub enumerate_append : {X : Type 0} (n : ℕ) (xs ys : List X)
    → enumerate_from n (xs ++ ys) ≡ enumerate_from n xs ++ enumerate_from (n + length xs) ys
enumerate_append n [] ys = ap (λ k. enumerate_from k ys) (let z : n ≡ n + 0 = omega arith in z)
enumerate_append n (x ∷ xs) ys =
    ap (λ zs. (n, x) ∷ zs)
    (enumerate_append (n + 1) xs ys
    ∙ ap (λ k. enumerate_from (n + 1) xs ++ enumerate_from k ys)
    (let z : (n + 1) + length xs ≡ n + length (x ∷ xs) = omega arith in z))

module _ (tables : List TableDecl) (round : ℕ) (who : Who) (calls : List Call) where
  -- The lines of one's replies in the round, with their numbers.
  abbrev numbered : List (ℕ × Said) → List ReplyLine
  numbered told = map (λ (entry : ℕ × Said). line_of round who entry.0 entry.1) told

  -- the lines of one more that was told
  lines_more : (more : List Said)
      → numbered (enumerate_from 1 (told_by calls ++ more))
      ≡ lines_told round who calls ++ numbered (enumerate_from (1 + length (told_by calls)) more)
  lines_more more =
      ap numbered (enumerate_append 1 (told_by calls) more)
      ∙ map-append
      (λ (entry : ℕ × Said). line_of round who entry.0 entry.1)
      (enumerate_from 1 (told_by calls))
      (enumerate_from (1 + length (told_by calls)) more)

  -- With one call more the text of a share is followed by the call's line.
  text_more : (told : Option Said)
      → replies_text tables (numbered (enumerate_from 1 (told_by calls ++ cons_option told [])))
      ≡ replies_text tables (lines_told round who calls) ++ line_behind tables round who calls told
  text_more None =
      ap (λ all. replies_text tables (numbered (enumerate_from 1 all))) (append-nil (told_by calls))
      ∙ sym (append-nil (replies_text tables (lines_told round who calls)))
  text_more (Some told) =
      let last : ReplyLine = line_of round who (1 + length (told_by calls)) told in
      ap (replies_text tables) (lines_more (told ∷ []))
      ∙ flat_map-append (reply_text tables) (lines_told round who calls) (last ∷ [])
      ∙ ap (λ text. replies_text tables (lines_told round who calls) ++ text) (append-nil (reply_text tables last))

-- With one call more a share's text grows by the call's line.
pub shares_grow : SharesGrow
shares_grow tables round who calls call =
    ap (λ all. replies_text tables (map (λ (entry : ℕ × Said). line_of round who entry.0 entry.1) (enumerate_from 1 all)))
    (filter_map-append (λ (call : Call). call.told) calls (call ∷ []))
    ∙ text_more tables round who calls call.told

-- With one round more the text grows by the round's.
pub rounds_grow : RoundsGrow
rounds_grow tables number rounds round =
    let text : ℕ × RoundRun → List ℕ = λ entry. round_text tables entry.0 entry.1.shares in
    ap (flat_map text) (enumerate_append number rounds (round ∷ []))
    ∙ flat_map-append text (enumerate_from number rounds) ((number + length rounds, round) ∷ [])
    ∙ ap (λ more. flat_map text (enumerate_from number rounds) ++ more)
    (append-nil (round_text tables (number + length rounds) round.shares))
