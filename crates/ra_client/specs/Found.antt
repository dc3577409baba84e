-- The repository that is found, as it is in code.
use Rattle.ra_client.specs.Said.{Repository}
use Rattle.ra_client.specs.declared.answer.Repository as declared

abbrev pub repository_as : declared.Repository → Repository
repository_as r = record { identity = r.identity; url = r.root_url.items }
