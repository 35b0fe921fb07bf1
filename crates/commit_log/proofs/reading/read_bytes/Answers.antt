use Rattle.std.proofs.Common.{◌≡◌, ◌∙◌, List, ℕ, ap, arith, drop, length, refl, sym, take}
use Rattle.std.proofs.lemmas.List.{take_at}
use Rattle.commit_log.proofs.FileFronts.{front_more, front_whole, reads_told}
use Rattle.commit_log.proofs.Watching.{no_call, one_call}
use Rattle.commit_log.proofs.reading.read_bytes.Goals as goal

pub loop-disk-init : goal.loop-disk-init
loop-disk-init g c = record {
  room = c.in_ok-piece.ensures;
  front = λ file told. c.in_ok-bytes.ensures.items
      ∙ sym (ap (λ l. take (length l) file) c.in_ok-bytes.ensures.items);
  reads = no_call g.D.Disk.told g.D.Disk.may_leave g.D.Disk.moment g.D.Disk.left_since
      g.met.D.Disk.only_now
      c.args.disk.now;
  started = refl;
  kept = refl;
}

pub returns-in-Err-clause-reads : goal.returns-in-Err-clause-reads
returns-in-Err-clause-reads g c =
    one_call g.D.Disk.told g.D.Disk.may_leave g.D.Disk.moment g.D.Disk.left_since c.args.disk.now
    c.loop-disk.disk c.read.new.self c.loop-disk.invariant.reads c.in-Err.ensures.told
    c.in-Err.ensures.crash c.in-Err.ensures.time

pub loop-disk-preserved : goal.loop-disk-preserved
loop-disk-preserved g c = record {
  room = omega (arith, c.loop-disk.invariant.room);
  front = λ file told.
      let read = reads_told c.read.result (g.D.Disk.told c.loop-disk.disk) file c.read.new.buf
      c.len-in-loop-disk.result c.in-Ok.count c.in-Ok.is (c.loop-disk.invariant.reads.same ∙ told)
      c.read.ensures.bytes in
      let place : c.len-in-loop-disk.result ≡ length c.loop-disk.bytes.items =
      c.len-in-loop-disk.ensures ∙ c.loop-disk.bytes.ok.0 in
      let size : length c.read.new.buf ≡ c.loop-disk.piece.len = omega arith in
      let filled = c.deref.ensures.value
      ∙ take_at c.read.new.buf (drop (length c.read.new.buf) c.loop-disk.piece.items)
      c.loop-disk.piece.len size in
      front_more file c.loop-disk.bytes.items c.split_at.result.0.now
      c.extend_from_slice.new.self.items
      c.in-Ok.count (c.loop-disk.invariant.front file told)
      (c.split_at.ensures.front ∙ ap (λ (l : List ℕ). take c.in-Ok.count l) filled ∙ read.bytes
      ∙ ap (λ at. take c.in-Ok.count (drop at file)) place)
      c.split_at.ensures.front_len c.in_ok-extend_from_slice.ensures.items;
  reads = one_call g.D.Disk.told g.D.Disk.may_leave g.D.Disk.moment g.D.Disk.left_since
      c.args.disk.now
      c.loop-disk.disk c.read.new.self c.loop-disk.invariant.reads c.in-Ok.ensures.told
      c.in-Ok.ensures.crash c.in-Ok.ensures.time;
  started = c.in-Ok.ensures.started ∙ c.loop-disk.invariant.started;
  kept = c.in-Ok.ensures.kept ∙ c.loop-disk.invariant.kept;
}

pub returns-clause-bytes : goal.returns-clause-bytes
returns-clause-bytes g c file told =
    front_whole file c.loop-disk.bytes.items (c.loop-disk.invariant.front file told)
    (omega (
      arith,
      c.loop-disk-test.false,
      c.requires file told,
      c.len.ensures,
      c.loop-disk.bytes.ok.0,
    ))
