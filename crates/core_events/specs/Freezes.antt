-- What the core replies to the buffers of a block.
use Rattle.std.specs.Prelude.{ℕ, Option, None, Some}
use Rattle.event_spec.specs.declared.reply.Reply.TheVariants as reply
use Rattle.event_spec.specs.Replies.{CoreReply}

-- of how many rows they are, or that the block is not sealed
abbrev pub reply_of : Option ℕ → CoreReply
reply_of None = reply.NoSeal
reply_of (Some rows) = reply.Imaged rows
