use Rattle.kmip_web.proofs.Front.{front_is, front_none, front_fits}
use Rattle.kmip_web.proofs.json.front_tree.Goals as goal

pub returns-in-Ok : goal.returns-in-Ok
returns-in-Ok c = record {
  tree = front_is _ _ c.args.bytes.now c.in-Ok.ensures.found.0 c.in-Ok.ensures.found.1;
  size = front_fits _ _ c.args.bytes.now c.in-Ok.ensures.found.0 c.in-Ok.ensures.found.1;
}

pub returns-in-Err-Malformed-clause-tree : goal.returns-in-Err-Malformed-clause-tree
returns-in-Err-Malformed-clause-tree c = front_none c.args.bytes.now
    (rw c.in-Err-Malformed.field-0-is at c.in-Err-Malformed.ensures.found)
