use Rattle.arrow_array.proofs.ArrayLemmas.{truth-data, variable-data, number-data, strip-data}
use Rattle.arrow_array.proofs.arrays.add_data.Goals as goal

pub returns-in_ok-push-in-Signed : goal.returns-in_ok-push-in-Signed
returns-in_ok-push-in-Signed c =
    number-data c.args.values.now c.args.place c.args.rows.now c.args.buffers.now.items c.push-in-Signed.new.self.items
    c.in_ok-numbers-in-Signed.field-0.items c.from-in-Signed.result c.in-Signed.is
    c.in_ok-numbers-in-Signed.ensures c.from-in-Signed.ensures c.in_ok-push-in-Signed.ensures.items

pub returns-in_ok-push-in-Truths : goal.returns-in_ok-push-in-Truths
returns-in_ok-push-in-Truths c =
    truth-data c.args.values.now c.args.place c.args.rows.now c.args.buffers.now.items c.push.new.self.items
    c.in_ok-bitmap-in-Truths.field-0.items c.from.result c.in-Truths.is
    c.in_ok-bitmap-in-Truths.ensures c.from.ensures c.in_ok-push-in-Truths.ensures.items

pub returns-in_ok-push-in-Texts-2 : goal.returns-in_ok-push-in-Texts-2
returns-in_ok-push-in-Texts-2 c =
    variable-data c.args.values.now c.in-Texts.width c.args.place c.args.rows.now c.args.buffers.now.items c.push-in-Texts.new.self.items c.push-in-Texts-2.new.self.items
    c.in_ok-offsets-in-Texts.field-0.items c.from-in-Texts.result c.in_ok-all_values-in-Texts.field-0.items c.from-in-Texts-2.result
    c.in-Texts.is c.in_ok-offsets-in-Texts.ensures c.from-in-Texts.ensures c.in_ok-push-in-Texts.ensures.items
    c.in_ok-all_values-in-Texts.ensures c.from-in-Texts-2.ensures c.in_ok-push-in-Texts-2.ensures.items

pub returns-in_ok-push-in-Strips : goal.returns-in_ok-push-in-Strips
returns-in_ok-push-in-Strips c =
    strip-data c.args.values.now c.in-Strips.width c.args.place c.args.rows.now c.args.buffers.now.items c.push-in-Strips.new.self.items
    c.in_ok-strips-in-Strips.field-0.items c.from-in-Strips.result c.in-Strips.is
    c.in_ok-strips-in-Strips.ensures c.from-in-Strips.ensures c.in_ok-push-in-Strips.ensures.items
