mod PackedCounts
mod FirstOnes
