-- What an export has sent behind some of its reads, and where it breaks off.
use Rattle.std.proofs.Common.{◌≡◌, ◌∙◌, ℕ, Option, List, [], ◌∷◌, ◌++◌, map, filter, refl, sym, ap, subst, append-nil, append_assoc, take, drop, take-append-drop}
use mathlib.Core.Logic.{inl, inr}
use Rattle.std.specs.List.{flat_map}
use Rattle.std.specs.Io.KnownBytes.{Appends}
use Rattle.std.proofs.KnownBytes.{Appends-nil, Appends-trans}
use Rattle.std.proofs.lemmas.Grind.{flat_map-append}
use Rattle.std.proofs.lemmas.List.{map-append}
use Rattle.std.proofs.lemmas.List.Elements.{filter-append}
use Rattle.arrow_spec.specs.Streams.{batch_message, end_word, schema_message, stream_of}
use Rattle.block_spec.specs.Slots.{Row}
use Rattle.byte_ports.specs.Calls.{AppendsFront}
use Rattle.cell_model.specs.declared.column.Column.{Column}
use Rattle.export_spec.specs.Calls.{AreAllRead, BreaksOff, groups_told, messages_of}
use Rattle.run_spec.specs.Occurrences.{Occurrence, replies_in}
use Rattle.run_spec.specs.Told.{is_some_row, rows_told}
use Rattle.store_export.specs.Groups.{group_message}

-- one more read's group, if it told a row
groups_more : (made : List Occurrence) (o : Occurrence) → groups_told (made ++ o ∷ []) ≡ groups_told made ++ filter is_some_row (rows_told o.reply ∷ [])
groups_more made o =
    ap (λ told. filter is_some_row (map rows_told told)) (map-append (λ (o : Occurrence). o.reply) made (o ∷ []))
    ∙ ap (filter is_some_row) (map-append rows_told (replies_in made) (o.reply ∷ []))
    ∙ filter-append is_some_row (map rows_told (replies_in made)) (rows_told o.reply ∷ [])

-- One read's group gives the message of its rows, or none if it has none.
one_message : (columns : List Column) (rows : List Row) → flat_map (batch_message columns) (filter is_some_row (rows ∷ [])) ≡ group_message columns rows
one_message columns [] = refl
one_message columns (row ∷ rows) = append-nil (batch_message columns (row ∷ rows))

-- One more read puts the message of its rows behind those sent before.
messages_more : (columns : List Column) (made : List Occurrence) (o : Occurrence)
    → messages_of columns (groups_told (made ++ o ∷ [])) ≡ messages_of columns (groups_told made) ++ group_message columns (rows_told o.reply)
messages_more columns made o =
    ap (messages_of columns) (groups_more made o)
    ∙ ap (λ bytes. schema_message columns ++ bytes) (flat_map-append (batch_message columns) (groups_told made) (filter is_some_row (rows_told o.reply ∷ [])))
    ∙ ap (λ bytes. schema_message columns ++ (flat_map (batch_message columns) (groups_told made) ++ bytes)) (one_message columns (rows_told o.reply))
    ∙ sym (append_assoc (schema_message columns) (flat_map (batch_message columns) (groups_told made)) (group_message columns (rows_told o.reply)))

-- The messages of so many reads have gone.
abbrev pub HasSent : List Column → List Occurrence → Option (List ℕ) → Option (List ℕ) → Type 0
HasSent columns made before now = Appends before now (messages_of columns (groups_told made))

-- An export broke off: what went out is such a front.
pub record HasBroken (columns : List Column) (blocks : ℕ) (made : List Occurrence) (before now : Option (List ℕ)) : Type 0 where
  pub bytes : List ℕ
  pub sent : Appends before now bytes
  pub breaks : BreaksOff columns blocks made bytes

-- the schema has gone
pub sending_begins : (columns : List Column) (before now : Option (List ℕ)) → Appends before now (schema_message columns) → HasSent columns [] before now
sending_begins columns before now sent = subst (Appends before now) (sym (append-nil (schema_message columns))) sent

-- one more block's message
pub sending_goes_on : (columns : List Column) (made : List Occurrence) (o : Occurrence) (before between now : Option (List ℕ))
    → HasSent columns made before between → Appends between now (group_message columns (rows_told o.reply)) → HasSent columns (made ++ o ∷ []) before now
sending_goes_on columns made o before between now sent more = subst (Appends before now) (sym (messages_more columns made o))
    (Appends-trans before between now (messages_of columns (groups_told made)) (group_message columns (rows_told o.reply)) sent more)

-- the word that ends the stream
pub sending_ends : (columns : List Column) (made : List Occurrence) (before between now : Option (List ℕ))
    → HasSent columns made before between → Appends between now end_word → Appends before now (stream_of columns (groups_told made))
sending_ends columns made before between now sent more = Appends-trans before between now (messages_of columns (groups_told made)) end_word sent more

-- ---- where it breaks off

-- a front of a piece, and what is left of it
rejoined : (first piece : List ℕ) (n : ℕ) → (first ++ take n piece) ++ drop n piece ≡ first ++ piece
rejoined first piece n = append_assoc first (take n piece) (drop n piece) ∙ ap (λ bytes. first ++ bytes) (take-append-drop n piece)

-- within the schema's message
pub breaks_first : (columns : List Column) (blocks : ℕ) (before now : Option (List ℕ)) → AppendsFront before now (schema_message columns) → HasBroken columns blocks [] before now
breaks_first columns blocks before now broken = record {
  bytes = take broken.0 (schema_message columns);
  sent = broken.2;
  breaks = inl (drop broken.0 (schema_message columns), take-append-drop broken.0 (schema_message columns) ∙ sym (append-nil (schema_message columns)));
}

-- within a block's message
pub breaks_within : (columns : List Column) (blocks : ℕ) (made : List Occurrence) (o : Occurrence) (before between now : Option (List ℕ))
    → HasSent columns made before between → AppendsFront between now (group_message columns (rows_told o.reply)) → HasBroken columns blocks (made ++ o ∷ []) before now
breaks_within columns blocks made o before between now sent broken = record {
  bytes = messages_of columns (groups_told made) ++ take broken.0 (group_message columns (rows_told o.reply));
  sent = Appends-trans before between now (messages_of columns (groups_told made)) (take broken.0 (group_message columns (rows_told o.reply))) sent broken.2;
  breaks = inl (
    drop broken.0 (group_message columns (rows_told o.reply)),
    rejoined (messages_of columns (groups_told made)) (group_message columns (rows_told o.reply)) broken.0 ∙ sym (messages_more columns made o),
  );
}

-- before the first message
pub breaks_nowhere : (columns : List Column) (blocks : ℕ) (before : Option (List ℕ)) → HasBroken columns blocks [] before before
breaks_nowhere columns blocks before = record {
  bytes = [];
  sent = Appends-nil before;
  breaks = inl (messages_of columns (groups_told []), refl);
}

-- before a block's message
pub breaks_before : (columns : List Column) (blocks : ℕ) (made : List Occurrence) (o : Occurrence) (before now : Option (List ℕ))
    → HasSent columns made before now → HasBroken columns blocks (made ++ o ∷ []) before now
breaks_before columns blocks made o before now sent = record {
  bytes = messages_of columns (groups_told made);
  sent = sent;
  breaks = inl (group_message columns (rows_told o.reply), sym (messages_more columns made o));
}

-- behind the messages of the blocks that were read
pub breaks_there : (columns : List Column) (blocks : ℕ) (made : List Occurrence) (before now : Option (List ℕ)) → HasSent columns made before now → HasBroken columns blocks made before now
breaks_there columns blocks made before now sent = record {
  bytes = messages_of columns (groups_told made);
  sent = sent;
  breaks = inl ([], append-nil (messages_of columns (groups_told made)));
}

-- behind them, where what was to follow is nothing
pub breaks_behind : (columns : List Column) (blocks : ℕ) (made : List Occurrence) (before between now : Option (List ℕ))
    → HasSent columns made before between → AppendsFront between now [] → HasBroken columns blocks made before now
breaks_behind columns blocks made before between now sent broken = record {
  bytes = messages_of columns (groups_told made) ++ take broken.0 [];
  sent = Appends-trans before between now (messages_of columns (groups_told made)) (take broken.0 []) sent broken.2;
  breaks = inl (drop broken.0 [], rejoined (messages_of columns (groups_told made)) [] broken.0 ∙ append-nil (messages_of columns (groups_told made)));
}

-- within the last word, behind all blocks
pub breaks_last : (columns : List Column) (blocks : ℕ) (made : List Occurrence) (before between now : Option (List ℕ)) → AreAllRead blocks made
    → HasSent columns made before between → AppendsFront between now end_word → HasBroken columns blocks made before now
breaks_last columns blocks made before between now all sent broken = record {
  bytes = messages_of columns (groups_told made) ++ take broken.0 end_word;
  sent = Appends-trans before between now (messages_of columns (groups_told made)) (take broken.0 end_word) sent broken.2;
  breaks = inr (all, (drop broken.0 end_word, rejoined (messages_of columns (groups_told made)) end_word broken.0));
}
