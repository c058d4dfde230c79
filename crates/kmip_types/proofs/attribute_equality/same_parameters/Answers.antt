use Rattle.std.specs.Prelude.{◌&&◌}
use Rattle.std.proofs.Common.{sym, ◌∙◌}
use Rattle.std.proofs.Math.Bool.{and-true}
use Rattle.kmip_types.proofs.attribute_equality.same_parameters.Goals as goal

pub returns : goal.returns
returns c = λ i. c.same_variants-same_1.ensures i
    && (c.same_variants-same_2.ensures i
    && (c.same_variants-same_3.ensures i
    && (c.same_variants-same_4.ensures i
    && (c.same_variants-same_5.ensures i
    && (c.same_variants-same_6.ensures i
    && (c.same_random_iv-same_7.ensures i
    && (c.same_iv_length-same_8.ensures i
    && (c.same_tag_length-same_9.ensures i
    && (c.same_fixed_field_length-same_10.ensures i
    && (c.same_invocation_field_length-same_11.ensures i
    && (c.same_counter_length-same_12.ensures i
    && ((c.same_initial_counter_value-same_13.ensures ∙ sym (and-true _)) i))))))))))))
