-- Messages one after another.
use Rattle.std.proofs.Common.{◌≡◌, ℕ, List, [], ◌∷◌, ◌++◌, ◌+◌, ◌<◌, ◌≤◌, length, take, get_or, sym, ap, arith, ◌∙◌, Option}
use Rattle.std.specs.Prelude.{flat_map}
use Rattle.std.specs.List.{enumerate_from}
use Rattle.std.proofs.lemmas.List.{flat_map_more, take_all, take_more}
use Rattle.std.proofs.lemmas.List.FromFn.{get_or-enumerate_from, length-enumerate_from}
use Rattle.arrow_spec.specs.Batches.{Array, batch_of_arrays}
use Rattle.arrow_spec.specs.DictBatches.{DictBatch, Dictionary}
use Rattle.arrow_spec.specs.Streams.{dictionary_message, message_of_batch, messages_of_dicts}

-- one dictionary's message more
pub one-more : (dictionaries : List (Option Dictionary)) (id : ℕ) (item : Option Dictionary) (before after : List ℕ)
    → id < length dictionaries → item ≡ get_or dictionaries id item
    → before ≡ flat_map dictionary_message (take id (enumerate_from 0 dictionaries)) → after ≡ before ++ dictionary_message (id, item)
    → after ≡ flat_map dictionary_message (take (id + 1) (enumerate_from 0 dictionaries))
one-more dictionaries id item before after inside is done added =
    let all : List (ℕ × Option Dictionary) = enumerate_from 0 dictionaries in
    let pair : ℕ × Option Dictionary = (id, item) in
    let same : id ≡ 0 + id = omega arith in
    let within : id < length all = omega (arith, length-enumerate_from 0 dictionaries) in
    let here : pair ≡ get_or all id pair =
    ap (λ (n : ℕ). let other : ℕ × Option Dictionary = (n, item) in other) same
    ∙ ap (λ (d : Option Dictionary). let other : ℕ × Option Dictionary = (0 + id, d) in other) is
    ∙ sym (get_or-enumerate_from 0 dictionaries id pair inside) in
    added
    ∙ ap (λ (bytes : List ℕ). bytes ++ dictionary_message pair) done
    ∙ flat_map_more dictionary_message [] (take id all) pair
    ∙ ap (λ (p : ℕ × Option Dictionary). flat_map dictionary_message (take id all ++ p ∷ [])) here
    ∙ ap (flat_map dictionary_message) (sym (take_more all id pair within))

-- the messages of all dictionaries, and that of the record batch
pub all-messages : (dicts : DictBatch) (dictionaries : List (Option Dictionary)) (arrays : List Array) (rows id : ℕ) (front last : List ℕ)
    → dictionaries ≡ dicts.dictionaries → arrays ≡ dicts.arrays → rows ≡ dicts.rows → length dictionaries ≤ id
    → front ≡ flat_map dictionary_message (take id (enumerate_from 0 dictionaries)) → last ≡ message_of_batch (batch_of_arrays rows arrays)
    → front ++ last ≡ messages_of_dicts dicts
all-messages dicts dictionaries arrays rows id front last first second third past done made =
    let all : List (ℕ × Option Dictionary) = enumerate_from 0 dictionaries in
    let whole : front ≡ flat_map dictionary_message (enumerate_from 0 dicts.dictionaries) =
    done
    ∙ ap (flat_map dictionary_message) (take_all id all (omega (arith, length-enumerate_from 0 dictionaries)))
    ∙ ap (λ (d : List (Option Dictionary)). flat_map dictionary_message (enumerate_from 0 d)) first in
    ap (λ (bytes : List ℕ). bytes ++ last) whole
    ∙ ap (λ (bytes : List ℕ). flat_map dictionary_message (enumerate_from 0 dicts.dictionaries) ++ bytes)
    (made
    ∙ ap (λ (a : List Array). message_of_batch (batch_of_arrays rows a)) second
    ∙ ap (λ (n : ℕ). message_of_batch (batch_of_arrays n dicts.arrays)) third)
