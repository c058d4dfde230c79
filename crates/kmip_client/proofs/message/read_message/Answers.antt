use Rattle.std.proofs.Common.{◌≡◌, ◌+◌, length, take, arith, ◌∙◌, ap, sym, IsTrue, Err, Ok}
use Rattle.std.proofs.lemmas.Result.{err_from_is_err_and}
use Rattle.kmip_wire.specs.Heads.{head_says}
use Rattle.kmip_link.specs.State.{left}
use Rattle.kmip_client.specs.MessageStop.{head_stop_of}
use Rattle.kmip_client.proofs.Messages.{head_stopped, stopped_by, stopped_read, len_is, contents_stopped, contents_read, whole_read}
use Rattle.kmip_client.proofs.message.read_message.Goals as goal

pub returns-in_err-read_more-clause-reads : goal.returns-in_err-read_more-clause-reads
returns-in_err-read_more-clause-reads g c = λ tells.
    let p = err_from_is_err_and c.from_residual.result c.from_residual.ensures.1 in
    let ensures = c.in_err-read_more.ensures in
    rw (p.1, p.2) (head_stopped c.args.config.now.max_bytes c.read_more.new.taken.items c.in_err-read_more.field-0.0
    (λ is. let it = ensures.ended is tells in (it.0, it.1, rw c.requires at it.2))
    (λ is. let it = ensures.broken is tells in (it.0, it.1, it.2, rw c.requires at it.3))
    (ensures.part tells))

pub returns-in_err-len-clause-reads : goal.returns-in_err-len-clause-reads
returns-in_err-len-clause-reads g c = λ tells.
    let p = err_from_is_err_and c.from_residual-in_err-len.result c.from_residual-in_err-len.ensures.1 in
    let it = c.in_ok-read_more.ensures.ok tells in
    let bytes : c.read_more.new.taken.items ≡ take 8 (left (g.L.Link.state c.args.link.now)) = rw c.requires at it.1 in
    let says : head_stop_of (head_says c.read_more.new.taken.items c.args.config.now.max_bytes)
    ≡ Err c.in_err-len.field-0.0 =
    ap (λ b. head_stop_of (head_says b c.args.config.now.max_bytes)) (sym c.deref.ensures.value)
    ∙ sym c.contents_len.ensures ∙ c.in_err-len.was in
    rw (p.1, p.2)
    (stopped_by c.args.config.now.max_bytes c.read_more.new.taken.items c.in_err-len.field-0.0 says it.0 bytes)

pub returns-in_err-len-clause-read : goal.returns-in_err-len-clause-read
returns-in_err-len-clause-read g c =
    let p = err_from_is_err_and c.from_residual-in_err-len.result c.from_residual-in_err-len.ensures.1 in
    let says : head_stop_of (head_says c.read_more.new.taken.items c.args.config.now.max_bytes)
    ≡ Err c.in_err-len.field-0.0 =
    ap (λ b. head_stop_of (head_says b c.args.config.now.max_bytes)) (sym c.deref.ensures.value)
    ∙ sym c.contents_len.ensures ∙ c.in_err-len.was in
    let eight : length c.read_more.new.taken.items ≡ 8 =
    omega (arith, c.in_ok-read_more.ensures.grown, ap length c.requires) in
    rw (p.1, p.2)
    (stopped_read c.args.config.now.max_bytes c.read_more.new.taken.items c.in_err-len.field-0.0 eight says)

pub returns-in_err-read_more-2-clause-reads : goal.returns-in_err-read_more-2-clause-reads
returns-in_err-read_more-2-clause-reads g c = λ tells.
    let p =
    err_from_is_err_and c.from_residual-in_err-read_more-2.result c.from_residual-in_err-read_more-2.ensures.1 in
    let ensures = c.in_err-read_more-2.ensures in
    let it = c.in_ok-read_more.ensures.ok tells in
    let bytes : c.read_more.new.taken.items ≡ take 8 (left (g.L.Link.state c.args.link.now)) = rw c.requires at it.1 in
    let told : head_stop_of (head_says c.read_more.new.taken.items c.args.config.now.max_bytes) ≡ Ok c.in_ok-len.len =
    ap (λ b. head_stop_of (head_says b c.args.config.now.max_bytes)) (sym c.deref.ensures.value)
    ∙ sym c.contents_len.ensures ∙ c.in_ok-len.was in
    let says : head_says (take 8 (left (g.L.Link.state c.args.link.now)))
    c.args.config.now.max_bytes ≡ Ok c.in_ok-len.len =
    ap (λ b. head_says b c.args.config.now.max_bytes) (sym bytes) ∙ len_is _ c.in_ok-len.len told in
    let tells_on : IsTrue (g.L.Link.state c.read_more.new.link).tells = rw c.read_more.ensures.keeps.tells tells in
    rw (p.1, p.2)
    (contents_stopped c.args.config.now.max_bytes c.in_ok-len.len c.read_more-2.new.taken.items c.in_err-read_more-2.field-0.0 says it.0
    (λ is. let it = ensures.ended is tells_on in (it.0, it.1, rw bytes at it.2))
    (λ is. let it = ensures.broken is tells_on in (it.0, it.1, it.2, rw bytes at it.3))
    (ensures.part tells_on))

pub returns-clause-reads : goal.returns-clause-reads
returns-clause-reads g c = λ tells.
    let it = c.in_ok-read_more.ensures.ok tells in
    let bytes : c.read_more.new.taken.items ≡ take 8 (left (g.L.Link.state c.args.link.now)) = rw c.requires at it.1 in
    let told : head_stop_of (head_says c.read_more.new.taken.items c.args.config.now.max_bytes) ≡ Ok c.in_ok-len.len =
    ap (λ b. head_stop_of (head_says b c.args.config.now.max_bytes)) (sym c.deref.ensures.value)
    ∙ sym c.contents_len.ensures ∙ c.in_ok-len.was in
    let says : head_says (take 8 (left (g.L.Link.state c.args.link.now)))
    c.args.config.now.max_bytes ≡ Ok c.in_ok-len.len =
    ap (λ b. head_says b c.args.config.now.max_bytes) (sym bytes) ∙ len_is _ c.in_ok-len.len told in
    let tells_on : IsTrue (g.L.Link.state c.read_more.new.link).tells = rw c.read_more.ensures.keeps.tells tells in
    let rest = c.in_ok-read_more-2.ensures.ok tells_on in
    contents_read c.args.config.now.max_bytes c.in_ok-len.len c.read_more-2.new.taken.items says it.0 rest.0 (rw bytes at rest.1)

pub returns-clause-read : goal.returns-clause-read
returns-clause-read g c =
    let told : head_stop_of (head_says c.read_more.new.taken.items c.args.config.now.max_bytes) ≡ Ok c.in_ok-len.len =
    ap (λ b. head_stop_of (head_says b c.args.config.now.max_bytes)) (sym c.deref.ensures.value)
    ∙ sym c.contents_len.ensures ∙ c.in_ok-len.was in
    let eight : length c.read_more.new.taken.items ≡ 8 =
    omega (arith, c.in_ok-read_more.ensures.grown, ap length c.requires) in
    let long : length c.read_more-2.new.taken.items ≡ 8 + c.in_ok-len.len =
    omega (arith, c.in_ok-read_more-2.ensures.grown) in
    whole_read c.args.config.now.max_bytes c.read_more.new.taken.items c.read_more-2.new.taken.items c.in_ok-len.len eight c.read_more-2.ensures.kept long (len_is _ c.in_ok-len.len told)
