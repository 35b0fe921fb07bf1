-- What a frame is, as the reader has it.
use Rattle.std.specs.Prelude.{◌≡◌, ℕ, ◌+◌, List, [], length}
use Rattle.ipc_read.specs.declared.frames.Frame.{Frame as Read}
use Rattle.ipc_read.specs.declared.frames.Frame.TheVariants as read
use Rattle.stream_spec.specs.Streams.{Frame, ended, framed}

-- the frame that was read
abbrev pub frame_value : Read → Frame
frame_value read.Ended = ended
frame_value (read.Framed metadata rest) = framed metadata.now rest.now

-- the metadata, none at the end
abbrev pub metadata_of : Read → List ℕ
metadata_of read.Ended = []
metadata_of (read.Framed metadata rest) = metadata.now

-- a message's first eight bytes, its metadata and what stands behind it are so many bytes
abbrev pub Fills : ℕ → Read → Type 0
Fills total read.Ended = Unit {0}
Fills total (read.Framed metadata rest) = 8 + length metadata.now + length rest.now ≡ total
