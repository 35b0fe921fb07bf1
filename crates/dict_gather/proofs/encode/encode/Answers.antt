use Rattle.std.proofs.Common.{◌≡◌, ◌∙◌, sym, subst, Option}
use Rattle.std.specs.Prelude.{IfOk}
use Rattle.arrow_spec.specs.Batches.{Array}
use Rattle.arrow_spec.specs.DictBatches.{Dictionary}
use Rattle.dict_gather.proofs.EncodeLemmas.{array-lacks, array-there, dictionary-lacks, dictionary-there}
use Rattle.dict_gather.proofs.encode.encode.Goals as goal

pub by_dictionary-requires : goal.by_dictionary-requires
by_dictionary-requires c = (c.requires.1.0, c.in-Some.ensures.cells c.requires.0 c.requires.1.0 c.requires.1.1)

pub returns-in-Some : goal.returns-in-Some
returns-in-Some c = record {
  dictionary = λ kind cells is.
      let told = sym (c.in-Some.ensures.found kind cells is) in
      subst (λ (d : Option Dictionary). IfOk c.by_dictionary.result (λ encoded. encoded.dictionary ≡ d)) (dictionary-there kind cells told)
      (c.by_dictionary.ensures.dictionary kind cells told (c.in-Some.ensures.cells kind cells is));
  array = λ kind cells is.
      let told = sym (c.in-Some.ensures.found kind cells is) in
      subst (λ (a : Array). IfOk c.by_dictionary.result (λ encoded. encoded.array ≡ a)) (array-there kind cells told)
      (c.by_dictionary.ensures.array cells (c.in-Some.ensures.cells kind cells is));
}

pub returns-in-None : goal.returns-in-None
returns-in-None c = record {
  dictionary = λ kind cells is.
      let told = sym (c.in-None.ensures.found kind cells is) in
      subst (λ (d : Option Dictionary). IfOk c.as_it_is.result (λ encoded. encoded.dictionary ≡ d)) (dictionary-lacks kind cells told)
      c.as_it_is.ensures.dictionary;
  array = λ kind cells is.
      let told = sym (c.in-None.ensures.found kind cells is) in
      subst (λ (a : Array). IfOk c.as_it_is.result (λ encoded. encoded.array ≡ a)) (is.array_is ∙ array-lacks kind cells told)
      c.as_it_is.ensures.array;
}
