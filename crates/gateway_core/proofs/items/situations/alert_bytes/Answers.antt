-- The length of the entity is that of what is written, and the verdict goes by it.
use Rattle.std.proofs.Common.{◌∙◌}
use Rattle.timetable.specs.Seen.{seen}
use Rattle.alert_map.specs.Alerts.{alert_message}
use Rattle.gateway_core.proofs.SituationLemmas.{over_limit, served_over, served_within, within_limit}
use Rattle.gateway_core.proofs.items.situations.alert_bytes.Goals as goal

pub entity_body_len-len-requires : goal.entity_body_len-len-requires
entity_body_len-len-requires c = (alert_message (seen c.args.table.now) c.args.situation.now, c.as_slice.ensures.same ∙ c.in_ok-bytes.ensures.bytes)

pub returns-then-len-le-ALERT_LIMIT-clause-verdict : goal.returns-then-len-le-ALERT_LIMIT-clause-verdict
returns-then-len-le-ALERT_LIMIT-clause-verdict c =
    within_limit (seen c.args.table.now) c.args.situation.now c.entity_body_len-len.result
    (c.entity_body_len-len.ensures (alert_message (seen c.args.table.now) c.args.situation.now) (c.as_slice.ensures.same ∙ c.in_ok-bytes.ensures.bytes))
    c.if-len-le-ALERT_LIMIT.true

pub returns-else-len-le-ALERT_LIMIT-clause-verdict : goal.returns-else-len-le-ALERT_LIMIT-clause-verdict
returns-else-len-le-ALERT_LIMIT-clause-verdict c =
    over_limit (seen c.args.table.now) c.args.situation.now c.entity_body_len-len.result
    (c.entity_body_len-len.ensures (alert_message (seen c.args.table.now) c.args.situation.now) (c.as_slice.ensures.same ∙ c.in_ok-bytes.ensures.bytes))
    c.if-len-le-ALERT_LIMIT.false

pub returns-then-len-le-ALERT_LIMIT-clause-served : goal.returns-then-len-le-ALERT_LIMIT-clause-served
returns-then-len-le-ALERT_LIMIT-clause-served c =
    served_within (seen c.args.table.now) c.args.situation.now c.entity_body_len-len.result c.in_ok-bytes.bytes
    (c.entity_body_len-len.ensures (alert_message (seen c.args.table.now) c.args.situation.now) (c.as_slice.ensures.same ∙ c.in_ok-bytes.ensures.bytes))
    c.if-len-le-ALERT_LIMIT.true c.in_ok-bytes.ensures.bytes c.in_ok-bytes.ensures.means

pub returns-else-len-le-ALERT_LIMIT-clause-served : goal.returns-else-len-le-ALERT_LIMIT-clause-served
returns-else-len-le-ALERT_LIMIT-clause-served c =
    served_over (seen c.args.table.now) c.args.situation.now c.entity_body_len-len.result
    (c.entity_body_len-len.ensures (alert_message (seen c.args.table.now) c.args.situation.now) (c.as_slice.ensures.same ∙ c.in_ok-bytes.ensures.bytes))
    c.if-len-le-ALERT_LIMIT.false
