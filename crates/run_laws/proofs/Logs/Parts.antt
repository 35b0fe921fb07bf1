-- Behind a lawful log each part is there.
use Rattle.core_laws.proofs.Events.Naming.{at_name, body_named, desk_named, head_named, shard_named}
use Rattle.core_laws.proofs.Logs.Logs.{reaches}
use Rattle.event_spec.specs.Parts.{HeadOf, ShardOf, BodyOf, TheDesk}
use Rattle.event_spec.specs.Replay.{replay}
use Rattle.run_laws.specs.Logs.Parts.{PartsAreThere}

-- Each part is there, since the parts behind a lawful log are sound.
pub parts_are_there : PartsAreThere
parts_are_there sh log shape lawful = let ok = reaches sh log shape lawful in record {
  heads = λ t has. at_name sh (replay sh log) ok.kinds (HeadOf t) (head_named sh t has);
  shards = λ t i has few. at_name sh (replay sh log) ok.kinds (ShardOf t i) (shard_named sh t i has few);
  bodies = λ t b has. at_name sh (replay sh log) ok.kinds (BodyOf t b) (body_named sh t b has);
  desk = at_name sh (replay sh log) ok.kinds TheDesk (desk_named sh);
}
