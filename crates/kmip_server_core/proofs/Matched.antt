-- The requests of the helpers are matched: each line computes.
use Rattle.std.proofs.Common.{refl}
use Rattle.kmip_request_objects.specs.Tables.{attribute, template_attribute, revocation_reason}
use Rattle.kmip_request_read.specs.Matched.{IsMatched}
use Rattle.kmip_store.specs.declared.call.Call.{Call}
use Rattle.kmip_store.specs.declared.call.Call.TheVariants.{Query, CreateRsaKeyPair, RngRetrieve, Sign, ActivateKey, RevokeKey, DestroyKey, RenameKey, GetKey}
use Rattle.kmip_server_core.specs.Requests.{request_of}

pub helper_is_matched : (call : Call) → IsMatched (request_of call)
unfolding attribute template_attribute revocation_reason
helper_is_matched Query = (refl, (refl, (tt, (tt, (tt, (tt, tt))), tt)))
helper_is_matched (CreateRsaKeyPair bits private public) = (
  refl,
  (
    refl,
    (
      tt,
      (
        tt,
        tt,
        (
          tt,
          (
            (tt, tt, (tt, tt, (tt, (refl, tt), tt))),
            ((tt, tt, (tt, tt, (tt, (refl, tt), tt))), tt),
          ),
          tt,
        ),
      ),
      (
        tt,
        (
          tt,
          tt,
          (
            tt,
            (
              (tt, tt, (tt, tt, (tt, (refl, (tt, tt, (tt, tt, tt))), tt))),
              ((tt, tt, (tt, tt, (tt, (refl, tt), tt))), tt),
            ),
            tt,
          ),
        ),
        (
          tt,
          (
            tt,
            tt,
            (
              tt,
              (
                (tt, tt, (tt, tt, (tt, (refl, (tt, tt, (tt, tt, tt))), tt))),
                ((tt, tt, (tt, tt, (tt, (refl, tt), tt))), tt),
              ),
              tt,
            ),
          ),
          tt,
        ),
      ),
    ),
  ),
)
helper_is_matched (RngRetrieve n) = (refl, (refl, (tt, tt, tt)))
helper_is_matched (Sign id bytes) = (
  refl,
  (
    refl,
    (
      tt,
      tt,
      (
        tt,
        (
          tt,
          tt,
          (
            tt,
            tt,
            (
              tt,
              tt,
              (
                tt,
                tt,
                (
                  tt,
                  tt,
                  (
                    tt,
                    tt,
                    (
                      tt,
                      tt,
                      (
                        tt,
                        tt,
                        (
                          tt,
                          tt,
                          (tt, tt, (tt, tt, (tt, tt, (tt, tt, tt)))),
                        ),
                      ),
                    ),
                  ),
                ),
              ),
            ),
          ),
        ),
        (tt, tt, tt),
      ),
    ),
  ),
)
helper_is_matched (ActivateKey id) = (refl, (refl, (tt, tt, tt)))
helper_is_matched (RevokeKey id) = (refl, (refl, (tt, tt, (tt, (tt, tt, (tt, tt, tt)), (tt, tt, tt)))))
helper_is_matched (DestroyKey id) = (refl, (refl, (tt, tt, tt)))
helper_is_matched (RenameKey id name) =
    (refl, (refl, (tt, tt, (tt, (tt, tt, (tt, tt, (tt, (refl, (tt, tt, (tt, tt, tt))), tt))), tt))))
helper_is_matched (GetKey id) = (refl, (refl, (tt, tt, (tt, tt, (tt, tt, (tt, tt, tt))))))
