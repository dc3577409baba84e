use Rattle.std.proofs.Common.{◌≡◌, length, Ok, ap, sym, subst, ◌∙◌, arith}
use Rattle.std.specs.Str.{IsUtf8}
use Rattle.node_base.specs.Numbers.{all_bytes}
use Rattle.node_base.specs.Props.{is_prop_byte}
use Rattle.node_base.proofs.PropNames.{rule_holds, rule_fails, name_read, name_refused}
use Rattle.node_base.proofs.prop_name.PropName.from_bytes.Goals as goal

pub invariant_of-result : goal.invariant_of-result
invariant_of-result c =
    let same = ap (λ v. v.items) c.in-Ok.ensures.ok in
    let utf8 = subst IsUtf8 (c.as_str-utf8.ensures.value ∙ same) c.as_str-utf8.utf8 in
    let bytes = ap (all_bytes is_prop_byte) (sym c.as_slice.ensures.value) ∙ sym c.are_prop_bytes.ensures ∙ c.if-not-are_prop_bytes.false in
    let rule = rule_holds c.args.bytes.items (λ (e : length c.args.bytes.items ≡ 0). c.if-len-eq0.false (omega (arith, e, c.as_slice.ensures.len, ap length c.as_slice.ensures.value))) bytes utf8 in
    rw same (omega (arith, c.as_slice.ensures.len, ap length c.as_slice.ensures.value), rule)

pub returns-in-Ok-clause-name : goal.returns-in-Ok-clause-name
returns-in-Ok-clause-name c =
    let same = ap (λ v. v.items) c.in-Ok.ensures.ok in
    let utf8 = subst IsUtf8 (c.as_str-utf8.ensures.value ∙ same) c.as_str-utf8.utf8 in
    let bytes = ap (all_bytes is_prop_byte) (sym c.as_slice.ensures.value) ∙ sym c.are_prop_bytes.ensures ∙ c.if-not-are_prop_bytes.false in
    let rule = rule_holds c.args.bytes.items (λ (e : length c.args.bytes.items ≡ 0). c.if-len-eq0.false (omega (arith, e, c.as_slice.ensures.len, ap length c.as_slice.ensures.value))) bytes utf8 in
    name_read c.args.bytes.items (omega (arith, c.as_slice.ensures.len, ap length c.as_slice.ensures.value)) rule ∙ ap Ok (sym same)

pub returns-clause-fault : goal.returns-clause-fault
returns-clause-fault c = name_refused c.args.bytes.items (omega arith) (rule_fails c.args.bytes.items (λ u. let e = c.in-Err.ensures.succeeds u in cc))
