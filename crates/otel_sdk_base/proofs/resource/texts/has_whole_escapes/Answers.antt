use Rattle.std.proofs.Common.{rules, tests, lit<}
use Rattle.std.proofs.lemmas.Iterator.Search.{all_from_yields_List}
use Rattle.std.proofs.lemmas.Iterator.Adapters.{YieldsList-from_skip}
use Rattle.std.proofs.lemmas.Iterator.Consumers.{YieldsList-at}
use Rattle.std.proofs.lemmas.Iterator.Splits.{YieldsList-from_str_split}
use Rattle.otel_sdk_base.specs.ResourceTexts.{begins_with_byte}
use Rattle.otel_sdk_base.proofs.resource.texts.has_whole_escapes.Goals as goal

pub returns : goal.returns
returns c =
    all_from_yields_List begins_with_byte _ _ _ c.all.ensures.ran
    (YieldsList-from_skip 1 (YieldsList-at c.skip.ensures.source (YieldsList-from_str_split 37 c.args.text.now (lit< tt) c.split.ensures.text c.split.ensures.has_more c.split.ensures.pattern)) c.skip.ensures.count)
    (λ x b q k. search (rules, tests))
