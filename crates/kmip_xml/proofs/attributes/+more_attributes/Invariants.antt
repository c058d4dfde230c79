use Rattle.kmip_xml.proofs.attributes.+more_attributes.Given as goal

abbrev pub decreases-more_attributes : goal.decreases-more_attributes
decreases-more_attributes l = l.count
