-- The laws that a hall asks, one by one.
use Rattle.core_laws.proofs.Events.States.{length-changed}
use Rattle.event_spec.specs.Effects.{changes_of}
use Rattle.event_spec.specs.Parts.{names}
use Rattle.core_laws.proofs.Frames.Fitness.{local}
use Rattle.core_laws.proofs.Frames.Frames.{frame}
use Rattle.core_laws.proofs.Frames.Reached.{core_kept, core_opens}
use Rattle.core_laws.specs.Hall.Hall.{HasHallLaws, StartsAtRest}
use Rattle.core_laws.proofs.Parts.Lasting.{outlives}
use Rattle.core_laws.proofs.Parts.Leaving.{leaves}
use Rattle.core_laws.proofs.Parts.Standing.{depends, rests}
use Rattle.core_laws.proofs.Words.Keeping.{words_have_room, words_open, words_stay, words_turn}

-- the core's events have the laws that a hall asks
pub has_laws : HasHallLaws
has_laws sh start passes = record {
  keeps = λ e s holds stands fits. core_kept sh e s holds (stands, fits);
  frame = λ e h s holds covers agrees stands fits. frame sh e h s holds.measures holds.sound holds.shards covers agrees (stands, fits);
  room = λ e s holds. length-changed (changes_of sh s e) (names sh) s;
  local = λ e h s t holds also covers here there stands fits. local sh e h s t covers here there fits;
  depends = λ e s t holds also same facts stands. depends sh e s t same facts stands;
  leaves = λ e s q holds stands fits other. leaves sh e s q holds.measures holds.sound (stands, fits) other;
  outlives = λ e oldest s holds stands fits low. outlives sh e oldest s holds.sound (stands, fits) low;
  small = λ s k p holds old. words_have_room sh s k p holds.sound old;
  turns = λ e s k p q holds stands fits old new. words_turn sh e s k p q holds.measures holds.sound (stands, fits) old new;
  still = λ e s k p q holds stands fits calm old new. words_stay sh e s k p q holds.sound calm old new;
}

-- the opening core is one to start at: it holds, nothing is open in it, and its words are hot
pub starts : StartsAtRest
starts sh shape = (core_opens sh shape, λ q. rests sh q shape, λ k p is. words_open sh k p is)
