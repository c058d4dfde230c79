use Rattle.std.proofs.Common.{length, ◌≤◌}
use Rattle.kmip_shape.proofs.Public.{form_of, room_of, appends_of}
use Rattle.kmip_shape.proofs.write.write_item.Goals as goal

pub write_into-requires-clause-form : goal.write_into-requires-clause-form
write_into-requires-clause-form g c =
    form_of g.T.Item.shape c.args.tag (g.T.Item.val c.args.item.now)
    (λ bytes. length bytes ≤ c.args.out.now.spare) c.requires

pub write_into-requires-clause-room : goal.write_into-requires-clause-room
write_into-requires-clause-room g c =
    room_of g.T.Item.shape c.args.tag (g.T.Item.val c.args.item.now) c.args.out.now.spare c.requires

pub returns : goal.returns
returns g c =
    appends_of g.T.Item.shape c.args.tag (g.T.Item.val c.args.item.now) c.args.out.now c.write_into.new.out
    (form_of g.T.Item.shape c.args.tag (g.T.Item.val c.args.item.now)
    (λ bytes. length bytes ≤ c.args.out.now.spare) c.requires)
    c.write_into.ensures
