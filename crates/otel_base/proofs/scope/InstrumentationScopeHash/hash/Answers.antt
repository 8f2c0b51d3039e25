use Rattle.std.proofs.Common.{◌≡◌, ◌∙◌, ap, map, ◌++◌, fold}
use Rattle.std.specs.List.{flat_map}
use Rattle.std.specs.Hash as fed
use Rattle.std.specs.Hash.{fed_then, HashWrites}
use Rattle.otel_base.specs.KeyValue as attribute
use Rattle.otel_base.specs.View.{attribute_of}
use Rattle.otel_base.specs.InstrumentationScope as scope
use Rattle.otel_base.specs.KeyOrder.{in_key_order}
use Rattle.otel_base.proofs.scope.InstrumentationScopeHash.hash.Goals as goal

pub returns : goal.returns
returns g c =
    let write = g.H.Hasher.write in
    let s = c.self.inside in
    let order = in_key_order (map attribute_of s.attributes.items) in
    let names : HashWrites = fed.str s.name in
    let versions : HashWrites = fed.option fed.str s.version in
    let urls : HashWrites = fed.option fed.str s.schema_url in
    let walked : c.hash_in_order.new.state
    ≡ fold write c.hash-3.new.state (flat_map attribute.hash order) =
    c.hash_in_order.ensures
    ∙ ap (λ xs. fold write c.hash-3.new.state
    (flat_map attribute.hash (in_key_order (map attribute_of xs)))) c.deref.ensures.value in
    let two = fed_then write c.args.state.now c.hash.new.state c.hash-2.new.state names versions
    c.hash.ensures c.hash-2.ensures in
    let three =
    fed_then write c.args.state.now c.hash-2.new.state c.hash-3.new.state (names
    ++ versions) urls two c.hash-3.ensures in
    fed_then write c.args.state.now c.hash-3.new.state c.hash_in_order.new.state (names ++ versions
    ++ urls) (flat_map attribute.hash order) three walked
    ∙ ap (λ v. fold write c.args.state.now (scope.hash v)) c.self.view_is
