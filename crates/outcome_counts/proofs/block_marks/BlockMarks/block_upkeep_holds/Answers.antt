use Rattle.std.proofs.Common.{◌≡◌, ◌∙◌, ap, sym, Bool, Option, Some, None}
use Rattle.std.specs.Option.{option_map_or}
use Rattle.outcome_spec.specs.Entries.{Entry}
use Rattle.output_read.specs.Kept.{entries_of}
use Rattle.outcome_counts.specs.Asked.{asked_at}
use Rattle.outcome_counts.specs.Blocks.{is_seal, is_freeze, is_idle}
use Rattle.outcome_counts.specs.Keys.{stamp_told, freeze_told, idle_told}
use Rattle.outcome_counts.proofs.Asked.{asked-is}
use Rattle.outcome_counts.proofs.block_marks.BlockMarks.block_upkeep_holds.Goals as goal

-- the first that is told decides
first : {A : Type 0} (f : A → Bool) (a : A) (o : Option A) (rest : Bool) → o ≡ Some a → option_map_or f o rest ≡ f a
first f a o rest is = ap (λ (x : Option _). option_map_or f x rest) is

later : {A : Type 0} (f : A → Bool) (o : Option A) (rest : Bool) → o ≡ None → option_map_or f o rest ≡ rest
later f o rest is = ap (λ (x : Option _). option_map_or f x rest) is

pub returns-in-Some : goal.returns-in-Some
returns-in-Some c = λ none.
    let replies = c.args.replies.now in
    let es = entries_of replies in
    let entry = asked_at replies c.args.at none in
    let is = asked-is replies c.args.at c.index-replies-at.result none c.requires.asked.inside c.index-replies-at.is in
    let told : stamp_told entry.reply.said ≡ Some c.in-Some.stamp = ap (λ (e : Entry). stamp_told e.reply.said) (sym is) ∙ sym c.stamp_told.ensures ∙ c.in-Some.is in
    c.is_seal.ensures none ∙ sym (first (λ stamp. is_seal es stamp entry) c.in-Some.stamp (stamp_told entry.reply.said) _ told)

pub returns-in-Some-freeze_told : goal.returns-in-Some-freeze_told
returns-in-Some-freeze_told c = λ none.
    let replies = c.args.replies.now in
    let tables = c.args.tables.now in
    let es = entries_of replies in
    let entry = asked_at replies c.args.at none in
    let is = asked-is replies c.args.at c.index-replies-at.result none c.requires.asked.inside c.index-replies-at.is in
    let stamp : stamp_told entry.reply.said ≡ None = ap (λ (e : Entry). stamp_told e.reply.said) (sym is) ∙ sym c.stamp_told.ensures ∙ c.in_default.is in
    let told : freeze_told entry.reply.said ≡ Some c.in-Some-freeze_told.frozen = ap (λ (e : Entry). freeze_told e.reply.said) (sym is) ∙ sym c.freeze_told.ensures ∙ c.in-Some-freeze_told.is in
    c.is_freeze.ensures none
    ∙ sym (later (λ s. is_seal es s entry) (stamp_told entry.reply.said) _ stamp
    ∙ first (λ frozen. is_freeze tables es frozen.of frozen.rows entry) c.in-Some-freeze_told.frozen (freeze_told entry.reply.said) _ told)

pub returns-in-Some-idle_told : goal.returns-in-Some-idle_told
returns-in-Some-idle_told c = λ none.
    let replies = c.args.replies.now in
    let tables = c.args.tables.now in
    let es = entries_of replies in
    let entry = asked_at replies c.args.at none in
    let is = asked-is replies c.args.at c.index-replies-at.result none c.requires.asked.inside c.index-replies-at.is in
    let stamp : stamp_told entry.reply.said ≡ None = ap (λ (e : Entry). stamp_told e.reply.said) (sym is) ∙ sym c.stamp_told.ensures ∙ c.in_default.is in
    let frozen : freeze_told entry.reply.said ≡ None = ap (λ (e : Entry). freeze_told e.reply.said) (sym is) ∙ sym c.freeze_told.ensures ∙ c.in_default-freeze_told.is in
    let told : idle_told entry.command entry.reply.said ≡ Some c.in-Some-idle_told.block = ap (λ (e : Entry). idle_told e.command e.reply.said) (sym is) ∙ sym c.idle_told.ensures ∙ c.in-Some-idle_told.is in
    c.is_idle.ensures none
    ∙ sym (later (λ s. is_seal es s entry) (stamp_told entry.reply.said) _ stamp
    ∙ later (λ f. is_freeze tables es f.of f.rows entry) (freeze_told entry.reply.said) _ frozen
    ∙ first (λ block. is_idle es block entry) c.in-Some-idle_told.block (idle_told entry.command entry.reply.said) _ told)
