-- The settings that the words of the command line ask for.
use Rattle.kmip_client.specs.Client.{credential_for}
use Rattle.kmip_words.specs.Exchange.{Settings}
use Rattle.kmip_run.specs.declared.command.Options.{Options}

abbrev pub settings_for : Options → Settings
settings_for options =
    record {
      credential = credential_for options.user options.password;
      limit = options.limit;
      buffered = options.diag;
    }
