-- The reply that bytes are, exactly.
use Rattle.std.specs.Prelude.{◌≡◌, ◌↔◌, ℕ, true, List, Option, Some}
use Rattle.cell_model.specs.declared.table.TableDecl.{TableDecl}
use Rattle.workload_spec.specs.declared.reply.ReplyLine.{ReplyLine}
use Rattle.workload_spec.specs.ReplyText.{reply_text}
use Rattle.reply_text.specs.Shown.{is_reply}

-- What was read is the reply over these tables whose text the bytes are, and nothing where they are
-- the text of none.
abbrev pub ReadsReply : List TableDecl → List ℕ → Option ReplyLine → Type 0
ReadsReply tables bytes read = (reply : ReplyLine)
    → (read ≡ Some reply) ↔ ((is_reply tables reply ≡ true) × (reply_text tables reply ≡ bytes))
