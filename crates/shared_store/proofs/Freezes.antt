-- Freezing a block: that it is there, and what a seal tells.
use Rattle.std.proofs.Common.{◌≡◌, ℕ, ◌+◌, ◌<◌, true, false, Option, None, Some, refl, sym, subst, true≢false, arith}
use Rattle.std.specs.Prelude.{nat_lt, option_map, slice_get, unwrap_or}
use Rattle.std.specs.Option.{option_map_or}
use Rattle.std.proofs.lemmas.Bool.Decides.{nat_tests}
use Rattle.block_spec.specs.declared.phase.SealFault.{SealFault}
use Rattle.cell_model.specs.declared.table.TableDecl.{TableDecl}
use Rattle.event_spec.specs.declared.reply.Reply.TheVariants as reply
use Rattle.event_spec.specs.Lawful.{HasBlock}
use Rattle.event_spec.specs.Parts.{Shape}
use Rattle.event_spec.specs.Replies.{CoreReply, reply_to_seal}
use Rattle.core_laws.proofs.Frames.Looks.{within}
use Rattle.workload_spec.specs.Valid.{is_block_of}

-- A number that is tested as below another is below it.
is_below : (a b : ℕ) → nat_lt a b ≡ true → a < b
is_below a b e = grind (arith, nat_tests)

-- a block of a table, as the events ask for it
pub block_there : (shape : Shape) (table block : ℕ) → is_block_of shape.tables table block ≡ true → HasBlock shape table block
block_there shape table block is = go (slice_get shape.tables table) refl is
  where
    go : (o : Option TableDecl) → slice_get shape.tables table ≡ o → option_map_or (λ (t : TableDecl). nat_lt block t.blocks) o false ≡ true → HasBlock shape table block
    go None at h = absurd (true≢false (sym h))
    go (Some decl) at h = (
      within shape.tables table decl at,
      subst (λ (o : Option TableDecl). block < unwrap_or (option_map (λ (t : TableDecl). t.blocks) o) 0) (sym at) (is_below block decl.blocks h),
    )

-- a seal replies nothing but its stamp or a reason
pub seals_tell : (fault : Option SealFault) (last : ℕ) (told : CoreReply) → told ≡ reply_to_seal fault last
    → ((stamp : ℕ) → told ≡ reply.Sealed stamp → ⊥) → ((because : SealFault) → told ≡ reply.NotSealed because → ⊥) → ⊥
seals_tell None last told is sealed refused = sealed (last + 1) is
seals_tell (Some because) last told is sealed refused = refused because is
